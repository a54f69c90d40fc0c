-- The smallest expression around a place, one thing said after the other.
use Rattle.std.proofs.Common.{◌≡◌, ℕ, zero, suc, ◌+◌, ◌*◌, List, [], ◌∷◌, ◌++◌, None, sym, refl, ap, ◌∙◌, append_assoc, append-nil}
use mathlib.Core.Option.{none}
use Rattle.semantics.specs.Check.{types_in}
use Rattle.semantics.specs.Answers.{smallest}
use Rattle.checker.specs.declared.said.Event.{Event}
use Rattle.checker.specs.Rows.{Book, event_is, said_in, events_at}
use Rattle.checker.proofs.Events.{events_last}
use Rattle.findings.specs.Smallest.{types_of, Closing}
use Rattle.findings.proofs.Events.{told_so}

types_append : (k : Book) (line : List ℕ) (es fs : List Event) → types_of k line (es ++ fs) ≡ types_of k line es ++ types_of k line fs
types_append k line [] fs = refl
types_append k line (e ∷ es) fs = ap (λ ts. types_in (event_is k line e) ++ ts) (types_append k line es fs) ∙ sym (append_assoc (types_in (event_is k line e)) (types_of k line es) (types_of k line fs))

said_types : (k : Book) (line : List ℕ) (at1 n : ℕ) (vs : List ℕ) → (said_in k line at1 n vs).types ≡ types_of k line (events_at vs at1 n)
said_types k line at1 zero vs = refl
said_types k line at1 (suc n) vs =
    (λ i. said_types k line at1 n vs i ++ types_in (told_so k line vs (at1 + 4 * n) i))
    ∙ ap (λ ts. types_of k line (events_at vs at1 n) ++ ts) (sym (append-nil _))
    ∙ sym (ap (types_of k line) (events_last vs at1 n) ∙ types_append k line (events_at vs at1 n) _)

-- at the beginning all are left
pub all_ahead : (vs : List ℕ) (at1 n place : ℕ) (es : List Event) → es ≡ events_at vs at1 n → Closing vs at1 n place es None
all_ahead vs at1 n place es h = record { typed = tt; left = λ k line. ap (λ ts. smallest place ts none) (said_types k line at1 n vs ∙ ap (types_of k line) (sym h)) }
