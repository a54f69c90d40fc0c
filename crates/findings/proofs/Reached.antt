-- The link at a place, one thing said after the other.
use Rattle.std.proofs.Common.{◌≡◌, ℕ, zero, suc, ◌+◌, ◌*◌, List, [], ◌∷◌, ◌++◌, sym, refl, ap, ◌∙◌, append_assoc, append-nil}
use Rattle.semantics.specs.Check.{links_in}
use Rattle.semantics.specs.Answers.{link_at}
use Rattle.checker.specs.declared.said.Event.{Event}
use Rattle.checker.specs.Rows.{Book, event_is, said_in, events_at}
use Rattle.checker.proofs.Events.{events_last}
use Rattle.findings.specs.Linking.{links_of, StillAhead}
use Rattle.findings.proofs.Events.{told_so}

links_append : (k : Book) (line : List ℕ) (es fs : List Event) → links_of k line (es ++ fs) ≡ links_of k line es ++ links_of k line fs
links_append k line [] fs = refl
links_append k line (e ∷ es) fs = ap (λ ls. links_in (event_is k line e) ++ ls) (links_append k line es fs) ∙ sym (append_assoc (links_in (event_is k line e)) (links_of k line es) (links_of k line fs))

said_links : (k : Book) (line : List ℕ) (at1 n : ℕ) (vs : List ℕ) → (said_in k line at1 n vs).links ≡ links_of k line (events_at vs at1 n)
said_links k line at1 zero vs = refl
said_links k line at1 (suc n) vs =
    (λ i. said_links k line at1 n vs i ++ links_in (told_so k line vs (at1 + 4 * n) i))
    ∙ ap (λ ls. links_of k line (events_at vs at1 n) ++ ls) (sym (append-nil _))
    ∙ sym (ap (links_of k line) (events_last vs at1 n) ∙ links_append k line (events_at vs at1 n) _)

-- at the beginning all are left
pub all_ahead : (vs : List ℕ) (at1 n place : ℕ) (es : List Event) → es ≡ events_at vs at1 n → StillAhead vs at1 n place es
all_ahead vs at1 n place es h k line = ap (link_at place) (said_links k line at1 n vs ∙ ap (links_of k line) (sym h))
