-- Trails as data.
use Rattle.std.specs.Prelude.{◌≡◌, ℕ, zero, suc, List, [], refl}
use Rattle.std.specs.Coded.{Coded, code_by, coded×, coded_list, coded_ℕ}
use Rattle.stack_places.specs.Codes.{place_code, place_coded, place_back}
use Rattle.journal_entries.specs.Places.{global, in_stack, current_card, cell}
use Rattle.journal_entries.specs.Trails.{Mark, at, structural, turned}

-- a mark as a number of its form, a text and three numbers
abbrev pub mark_code : Mark → ℕ × (List ℕ × (ℕ × (ℕ × ℕ)))
mark_code structural = (0, ([], (0, (0, 0))))
mark_code turned = (1, ([], (0, (0, 0))))
mark_code (at (global name)) = (2, (name, (0, (0, 0))))
mark_code (at (in_stack p)) = (3, ([], place_code p))
mark_code (at current_card) = (4, ([], (0, (0, 0))))
mark_code (at (cell i c)) = (5, ([], (0, (i, c))))

abbrev pub mark_coded : ℕ → List ℕ → ℕ → ℕ → ℕ → Mark
mark_coded zero name form i c = structural
mark_coded (suc zero) name form i c = turned
mark_coded (suc (suc zero)) name form i c = at (global name)
mark_coded (suc (suc (suc zero))) name form i c = at (in_stack (place_coded form i c))
mark_coded (suc (suc (suc (suc zero)))) name form i c = at current_card
mark_coded n name form i c = at (cell i c)

pub mark_back : (m : Mark) → (let p = mark_code m in mark_coded p.0 p.1.0 p.1.1.0 p.1.1.1.0 p.1.1.1.1) ≡ m
mark_back structural = refl
mark_back turned = refl
mark_back (at (global name)) = refl
mark_back (at (in_stack p)) = λ i. at (in_stack (place_back p i))
mark_back (at current_card) = refl
mark_back (at (cell i c)) = refl

abbrev pub coded_trail : Coded (List Mark)
coded_trail = coded_list (code_by (ℕ × (List ℕ × (ℕ × (ℕ × ℕ))))
    (coded× coded_ℕ (coded× (coded_list coded_ℕ) (coded× coded_ℕ (coded× coded_ℕ coded_ℕ)))) mark_code
    (λ p. mark_coded p.0 p.1.0 p.1.1.0 p.1.1.1.0 p.1.1.1.1) mark_back)
