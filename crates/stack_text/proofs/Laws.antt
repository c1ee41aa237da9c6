-- Bytes are read as a stack exactly where they are one of its texts.
use Rattle.std.proofs.Common.{◌≡◌, ℕ, List, [], ◌∷◌, ◌++◌, take, Result, Ok, Err, refl, sym, ap, subst, ◌∙◌, get_or}
use Rattle.std.proofs.Common.{arith}
use Rattle.object_table.specs.Content.{Content}
use Rattle.object_table.specs.WellFormed.{IsWellFormed}
use Rattle.stack_text.specs.Document.{Document}
use Rattle.stack_text.specs.Spelling.{Version, first, second, header, document_text}
use Rattle.stack_text.specs.Reading.{Fails, document_at, read_as}
use Rattle.stack_text.specs.Listing.{document_of, content_of, spelling}
use Rattle.stack_text.specs.Laws.{Spells, stack_in, IsOfVersion, ReadsEachText, OneStack, WrittenIsRead, ReadIsWritten}
use Rattle.stack_text.specs.Laws.{ReadsAgain}
use Rattle.stack_text.specs.declared.fault.FileError.{FileError}
use Rattle.stack_text.specs.declared.fault.ReadError.{ReadError}
use Rattle.stack_text.specs.declared.fault.ReadError.TheVariants.{Memory, File}
use Rattle.stack_text.proofs.Listable.{IsDocument, Says}
use Rattle.stack_text.proofs.DocumentTexts.{document-found, document-again}
use Rattle.stack_text.proofs.Listed.{listed_again}
use Rattle.stack_text.proofs.Again.{relisted_again}
use Rattle.stack_text.proofs.Stacks.{document_listed}
use Rattle.stack_text.proofs.Contents.{content_listed}
use Rattle.stack_text.proofs.Versions.{said_in_stack, said_in_document}

-- what is read is a stack whose text these bytes are
pub stack_found : (bytes : List ℕ) (s : Content) → stack_in bytes ≡ Ok s → Spells bytes s
stack_found bytes s e = by (document_at bytes) refl e
  where
    spells : (d : Document) → (v : Version) × (IsDocument d × Says v d) × (bytes ≡ document_text v d)
        → Spells bytes (content_of d)
    spells d h = record {
      well_formed = content_listed d h.1.0;
      version = h.0;
      said = said_in_stack d h.1.0 h.0 h.1.1;
      text = h.2 ∙ ap (document_text h.0) (sym (listed_again d h.1.0));
    }

    by : (r : Result Document FileError) → document_at bytes ≡ r → read_as content_of r ≡ Ok s → Spells bytes s
    by (Ok d) k f =
        let is : content_of d ≡ s = cc in subst (λ t. Spells bytes t) is (spells d (document-found bytes d k))
    by (Err f) k g = absurd cc

-- and each text of a stack is read as this stack
pub stack_again : (bytes : List ℕ) (s : Content) → Spells bytes s → stack_in bytes ≡ Ok s
stack_again bytes s is =
    ap (read_as content_of) (ap document_at is.text
    ∙ document-again is.version (document_of s) (document_listed s is.well_formed)
    (said_in_document s is.well_formed is.version is.said))
    ∙ ap Ok (relisted_again s is.well_formed)

-- so a text of a stack is refused where it is out of memory alone
pub refused_for_memory : (bytes : List ℕ) (s : Content) → Spells bytes s → (e : ReadError) → Fails e (document_at bytes)
    → Fails {Y = Content} e (Ok s)
refused_for_memory bytes s is Memory h = tt
refused_for_memory bytes s is (File f) h =
    absurd (let e = sym (stack_again bytes s is) ∙ ap (read_as content_of) h in cc)

-- ---- the laws

pub reads_each_text : ReadsEachText
reads_each_text bytes s = (stack_found bytes s, stack_again bytes s)

pub one_stack : OneStack
one_stack bytes s t a b = let same : ◌≡◌ {A = Result Content FileError} (Ok s) (Ok t) = sym (stack_again bytes s a)
    ∙ stack_again bytes t b in cc

spells_again : (s : Content) → IsWellFormed s → Spells (spelling second s) s
spells_again s is = record { well_formed = is; version = second; said = tt; text = refl }

pub written_is_read : WrittenIsRead
written_is_read s is = stack_again (spelling second s) s (spells_again s is)

two_headers : header first ++ 10 ∷ [] ≡ header second ++ 10 ∷ [] → ⊥
two_headers e = let n : 49 ≡ 50 = ap (λ (xs : List ℕ). get_or xs 8 0) e in omega (arith, n)

-- a text of a stack that begins as those of version 2 is its text of version 2
pub second_alone : (bytes : List ℕ) (s : Content) → IsOfVersion second bytes → Spells bytes s
    → spelling second s ≡ bytes
second_alone bytes s of_second is = by is.version is.text
  where
    by : (v : Version) → bytes ≡ spelling v s → spelling second s ≡ bytes
    by second e = sym e
    by first e = absurd (two_headers (sym (ap (take 10) e) ∙ of_second))

pub read_is_written : ReadIsWritten
read_is_written bytes s of_second e = second_alone bytes s of_second (stack_found bytes s e)

pub reads_again : ReadsAgain
reads_again bytes s e = written_is_read s (stack_found bytes s e).well_formed
