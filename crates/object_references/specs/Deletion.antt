-- Whether a card may go.
use Rattle.std.specs.Prelude.{ℕ, Bool, false, not, ◌&&◌, unwrap_or}
use Rattle.object_table.specs.Content.{Content}
use Rattle.object_table.specs.Flags.{cant_delete_of}
use Rattle.object_table.specs.Objects.{has_kind}
use Rattle.structural_changes.specs.Writes.{home, is_last_card, fits_deletion}

-- whether a card or a background is kept from deletion
abbrev pub is_kept : Content → ℕ → Bool
is_kept s id = has_kind (λ kind. unwrap_or (cant_delete_of kind) false) s id

-- whether the current card may go: there is another one, it isn't kept, nor is the background that goes with it
abbrev pub may_delete : Content → ℕ → Bool
may_delete s current =
    fits_deletion s && (not (is_kept s current) && not (is_last_card s current && is_kept s (home s current)))
