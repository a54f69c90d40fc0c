-- What is said in four words: as an event, and its fault.
use Rattle.std.proofs.Common.{◌≡◌, ℕ, zero, suc, ◌+◌, ◌*◌, Bool, true, false, eqb, List, [], ◌∷◌, get_or, refl}
use mathlib.Core.Option.{none}
use Rattle.base.specs.Base.{pick}
use Rattle.lexer.specs.Tokens.{piece}
use Rattle.semantics.specs.Check.{Said, said, fault, link_to, faults_in}
use Rattle.checker.specs.declared.said.Link.TheVariants.{Declared, Local, File}
use Rattle.checker.specs.declared.said.Said.TheVariants.{Fault, «Type» as Types, Link}
use Rattle.checker.specs.Rows.{Book, typ, noted_type, event_said, event_in, event_by as event_of, event_at, told_is, event_is, said_in}
use Rattle.findings.specs.Said.{fault_of, faults_read}

-- what is said, by the tests of its tag
abbrev event_by : Bool → Bool → Bool → Bool → Book → List ℕ → ℕ → ℕ → ℕ → Said
event_by p q r s k line a b x = pick p (said none (fault a b x ∷ []) [] []) (pick q (noted_type a b (typ k x))
    (pick r (said none [] [] (link_to (piece line a b) (k.sigs x).file (k.sigs x).name ∷ []))
    (pick s (said none [] [] (record { from = a; to = b; sort = 1; file = []; name = (piece line a b).w; at = x } ∷ []))
    (said none [] [] (record { from = a; to = b; sort = 2; file = (piece line a b).w; name = []; at = 0 } ∷ [])))))

-- what is read from four words is what they say
event_told : (k : Book) (line : List ℕ) (t a b x : ℕ) → event_said k line t a b x ≡ event_is k line (event_of t a b x)
event_told k line t a b x = go (eqb t 0) (eqb t 1) (eqb t 2) (eqb t 3)
  where
    go : (p q r s : Bool) → event_by p q r s k line a b x ≡ told_is k (piece line a b) (pick p (Fault x) (pick q (Types (record { 0 = x })) (pick r (Link (Declared (record { 0 = x }))) (pick s (Link (Local x)) (Link File)))))
    go true q r s = refl
    go false true r s = refl
    go false false true s = refl
    go false false false true = refl
    go false false false false = refl

pub told_so : (k : Book) (line ws : List ℕ) (i : ℕ) → event_in k line ws i ≡ event_is k line (event_at ws i)
told_so k line ws i = event_told k line (get_or ws i 0) (get_or ws (i + 1) 0) (get_or ws (i + 2) 0) (get_or ws (i + 3) 0)

-- its faults
event_faults : (k : Book) (line : List ℕ) (t a b x : ℕ) → faults_in (event_said k line t a b x) ≡ fault_of t a b x
event_faults k line t a b x = go (eqb t 0) (eqb t 1) (eqb t 2) (eqb t 3)
  where
    go : (p q r s : Bool) → faults_in (event_by p q r s k line a b x) ≡ pick p (fault a b x ∷ []) []
    go true q r s = refl
    go false true r s = refl
    go false false true s = refl
    go false false false true = refl
    go false false false false = refl

-- the faults among n things said are those that are read, whatever a lookup's numbers mean
pub said_faults : (k : Book) (line : List ℕ) (at1 n : ℕ) (vs : List ℕ) → (said_in k line at1 n vs).faults ≡ faults_read vs at1 n
said_faults k line at1 zero vs = refl
said_faults k line at1 (suc n) vs =
    let a = said_faults k line at1 n vs in
    let b = event_faults k line (get_or vs (at1 + 4 * n) 0) (get_or vs (at1 + 4 * n + 1) 0) (get_or vs (at1 + 4 * n + 2) 0) (get_or vs (at1 + 4 * n + 3) 0) in
    cc
