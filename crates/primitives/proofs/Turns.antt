-- Externals by their numbers.
use Rattle.std.proofs.Common.{◌≡◌, ◌<◌, ℕ, length, subst, sym, Option, Some, None, IfSome}
use Rattle.std.proofs.lemmas.List.{length-map}
use Rattle.change_journal.specs.History.{History}
use Rattle.containers.specs.Base.{base}

titles_count : (w : History) → length (base w).titles ≡ length w.now.externals
unfolding base
titles_count w = length-map w.now.externals _

pub is_there : (w : History) (i : ℕ) → i < length (base w).titles → i < length w.now.externals
is_there w i h = subst (λ n. i < n) (titles_count w) h

pub is_titled : (w : History) (i : ℕ) → i < length w.now.externals → i < length (base w).titles
is_titled w i h = subst (λ n. i < n) (sym (titles_count w)) h

pub is_titled_if_some : (w : History) (o : Option ℕ) → IfSome o (λ i. i < length w.now.externals)
    → IfSome o (λ i. i < length (base w).titles)
is_titled_if_some w None h = h
is_titled_if_some w (Some i) h = is_titled w i h
