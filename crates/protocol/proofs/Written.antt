-- Numbers of an answer, written one after the other.
use Rattle.std.proofs.Common.{◌≡◌, ℕ, ◌+◌, ◌<◌, ◌≤◌, List, ◌∷◌, ◌++◌, length, get_or, drop, decimal, sym, ap, ◌∙◌, append_assoc, append-nil}
use Rattle.std.proofs.lemmas.List.{at_drop_all, at_drop_more}
use Rattle.protocol.specs.Lines.{spaced}

-- what was to come first is now written
moved : (out next f rest x : List ℕ) → next ≡ out ++ f → out ++ (f ++ rest) ≡ x → next ++ rest ≡ x
moved out next f rest x e p = ap (λ l. l ++ rest) e ∙ append_assoc out f rest ∙ p

pub number_more : (out next ws x : List ℕ) (i : ℕ) → i < length ws → next ≡ out ++ (32 ∷ decimal (get_or ws i 0)) → out ++ spaced (drop i ws) ≡ x → next ++ spaced (drop (i + 1) ws) ≡ x
number_more out next ws x i h e p = moved out next (32 ∷ decimal (get_or ws i 0)) (spaced (drop (i + 1) ws)) x e (sym (at_drop_more (λ l. out ++ spaced l) ws i 0 h) ∙ p)

pub numbers_whole : (out ws x : List ℕ) (i : ℕ) → length ws ≤ i → out ++ spaced (drop i ws) ≡ x → out ≡ x
numbers_whole out ws x i h p = sym (append-nil out) ∙ sym (at_drop_all (λ l. out ++ spaced l) ws i h) ∙ p
