-- What is asked, and what names, calls and fields come to.
use Rattle.std.proofs.Common.{◌≡◌, ℕ, Bool, true, false, ◌||◌, List, [], ◌∷◌, ◌++◌, take, drop, Some, None, Ok, Option as Maybe, sym, refl, ap, ◌∙◌, subst, append_assoc, append-nil}
use Rattle.std.specs.Option.{ok_or}
use mathlib.Core.Option.{Option, some, none}
use Rattle.base.specs.Base.{pick, opt, Word, same}
use Rattle.lexer.specs.Tokens.{Tok}
use Rattle.lexer.specs.Words.{k_num, k_bool}
use Rattle.parser.specs.Rows.{op_is}
use Rattle.parser.specs.declared.code.Op.{Op}
use Rattle.semantics.specs.declared.fault.Fault.{Fault as Wrong}
use Rattle.semantics.specs.Names.{Ty, t_num, t_bool, t_of, Sig, s_unknown, s_several, s_type, s_const, s_rec, s_def}
use Rattle.semantics.specs.Check.{said, Fault, Link, fault, Local, find, in_front, ty_in, wrong, quiet, Callee, calls_it, callee, of_record, of_type, count_fault}
use Rattle.semantics.specs.Walk.{State, state, begins, add, tells, Query, q_here, q_there, k_yes, k_sig, Fetch, has, fetch, asks, asks_name}
use Rattle.checker.specs.declared.lookup.Meaning.{Meaning}
use Rattle.checker.specs.declared.lookup.Want.{Want}
use Rattle.checker.specs.declared.lookup.TypeId.{TypeId}
use Rattle.checker.specs.declared.lookup.«Type».{«Type» as Typ}
use Rattle.checker.specs.declared.lookup.«Type».TheVariants.{Num, Bool as Truth, Of}
use Rattle.checker.specs.Types.{type_is}
use Rattle.checker.specs.declared.rows.Bounds.{Bounds}
use Rattle.checker.specs.declared.rows.Place.{Place}
use Rattle.checker.specs.declared.slots.Slots.{Slots}
use Rattle.checker.specs.declared.verdict.Verdict.{Verdict}
use Rattle.checker.specs.Rows.{Book, Origin, ty_of, slots_is, blamed, verdict_said, meaning_is, MeaningSays, with_said, means}
use Rattle.checker.specs.Turns.{callee_said, callee_slots, type_said, Goes, TurnSays}
use Rattle.checker.specs.Asks.{begun, slots_opt, Unfilled, SlotsSay, member_said, FieldTurn, TypeTurn}
use Rattle.checker.proofs.States.{output}

pub asks_bound : (l : Query → Fetch Query) (g : List Local) (w : Word) (x : Local) → find g w ≡ some x → fetch l (asks_name g w) ≡ has (k_yes false)
asks_bound l g w x e = ap (λ f. fetch l (opt f (some (q_here w)) (λ y. none))) e

pub asks_free : (l : Query → Fetch Query) (g : List Local) (w : Word) → find g w ≡ none → fetch l (asks_name g w) ≡ l (q_here w)
asks_free l g w e = ap (λ f. fetch l (opt f (some (q_here w)) (λ y. none))) e

pub front_said : (fs gs : List Fault) (ls : List Link) (o : Option Ty) (σ : State) → with_said (said o gs [] ls) (with_said (tells fs) σ) ≡ with_said (in_front fs (said o gs [] ls)) σ
front_said fs gs ls o σ = ap (state σ.stack σ.bound) (output _ _ _ _ _ _ (append_assoc σ.out.faults fs gs) (append-nil (σ.out.types ++ [])) (ap (λ x. x ++ ls) (append-nil σ.out.links)))

pub begun_is : (k : Book) (t : Tok) (v : Verdict) (c : Maybe Slots) (f : Maybe Wrong) (σ : State) (n : ℕ) (C : Callee) → verdict_said k t v ≡ callee_said C → slots_is k c ≡ opt (callee_slots C) [] (λ ss. ss) → blamed f t.from t.to ≡ count_fault t n (callee_slots C) → begun k t v c f σ ≡ begins t n C σ.stack σ.bound σ.out
begun_is k t v c f σ n (calls_it o s) p q r = λ i. state (record { ty = ty_in (p i); from = t.from; to = t.to; slots = q i } ∷ σ.stack) σ.bound (add σ.out (in_front (r i) (p i)))

-- the slots of a call that begins are all of them
pub all_left : (k : Book) (m : Meaning) (c : Maybe Slots) (t : Tok) → SlotsSay k m c → slots_is k c ≡ opt (callee_slots (callee t (meaning_is k m))) [] (λ ss. ss)
all_left k m c t s = go c s.unfilled ∙ ap (λ o. opt o [] (λ ss. ss)) (sym (s.come t))
  where
    go : (c : Maybe Slots) → Unfilled c → slots_is k c ≡ opt (slots_opt k c) [] (λ ss. ss)
    go None u = refl
    go (Some s) u = ap (λ n. drop n (k.sigs s.sig.0).slots) u

-- what was asked is known, or isn't
pub meaning_known : (k : Book) (q : Query) (o : Maybe Meaning) (w : Want) (m : Meaning) → MeaningSays k q o → ok_or o w ≡ Ok m → k.knows q ≡ has (k_sig (meaning_is k m))
meaning_known k q None w m h e = cc
meaning_known k q (Some x) w m h e = let i : x ≡ m = cc in subst (λ y. k.knows q ≡ has (k_sig (meaning_is k y))) i h

pub same_member : (s : Sig) (t : Tok) (f n g m : Word) → of_record (λ x y. s) t (some (t_of f n)) ≡ of_record (λ x y. s) t (some (t_of g m))
same_member s_unknown t f n g m = refl
same_member s_several t f n g m = refl
same_member (s_type x y) t f n g m = refl
same_member (s_const x y o) t f n g m = refl
same_member (s_rec x y ss) t f n g m = refl
same_member (s_def x y ss o) t f n g m = refl

-- a word where a type has to be
pub of_type_is : (s : Sig) (t : Tok) → of_type (λ w. s) t ≡ pick (same t.w k_num) (said (some t_num) [] [] []) (pick (same t.w k_bool) (said (some t_bool) [] [] []) (type_said t s))
of_type_is s_unknown t = refl
of_type_is s_several t = refl
of_type_is (s_type x y) t = refl
of_type_is (s_const x y o) t = refl
of_type_is (s_rec x y ss) t = refl
of_type_is (s_def x y ss o) t = refl

-- declared before, or bound already
pub twice_told : (b : Bool) (t : Tok) → tells (pick b (fault t.from t.to 4 ∷ []) []) ≡ pick b (wrong t 4) quiet
twice_told true t = refl
twice_told false t = refl

pub or_false : (b : Bool) → b ≡ (b || false)
or_false true = refl
or_false false = refl

-- a word where a type has to be: num, bool, or a name
pub type_num : (k : Book) (line : List ℕ) (t : Tok) (v : Verdict) → same t.w k_num ≡ true → verdict_said k t v ≡ said (some t_num) [] [] [] → TypeTurn k line t (Ok v)
type_num k line t v p e = (k_yes false, ap (λ b. fetch k.knows (pick b none (pick (same t.w k_bool) none (some (q_here t.w))))) p, e ∙ sym (of_type_is s_unknown t ∙ ap (λ b. pick b (said (some t_num) [] [] []) (pick (same t.w k_bool) (said (some t_bool) [] [] []) (type_said t s_unknown))) p))

pub type_bool : (k : Book) (line : List ℕ) (t : Tok) (v : Verdict) → same t.w k_num ≡ false → same t.w k_bool ≡ true → verdict_said k t v ≡ said (some t_bool) [] [] [] → TypeTurn k line t (Ok v)
type_bool k line t v p q e = (k_yes false, (λ i. fetch k.knows (pick (p i) none (pick (q i) none (some (q_here t.w))))), e ∙ sym (of_type_is s_unknown t ∙ (λ i. pick (p i) (said (some t_num) [] [] []) (pick (q i) (said (some t_bool) [] [] []) (type_said t s_unknown)))))

pub type_here : (k : Book) (line : List ℕ) (t : Tok) (s : Sig) (v : Verdict) → same t.w k_num ≡ false → same t.w k_bool ≡ false → k.knows (q_here t.w) ≡ has (k_sig s) → verdict_said k t v ≡ type_said t s → TypeTurn k line t (Ok v)
type_here k line t s v p q h e = (k_sig s, (λ i. fetch k.knows (pick (p i) none (pick (q i) none (some (q_here t.w))))) ∙ h, e ∙ sym (of_type_is s t ∙ (λ i. pick (p i) (said (some t_num) [] [] []) (pick (q i) (said (some t_bool) [] [] []) (type_said t s)))))

-- a field of what has that type
pub field_none : (k : Book) (line : List ℕ) (t : Tok) (v : Verdict) (o : Option Ty) → none ≡ o → verdict_said k t v ≡ quiet → FieldTurn k line o t (Ok v)
field_none k line t v o e m = subst (λ x. FieldTurn k line x t (Ok v)) e (k_yes false, refl, m)

pub field_plain : (k : Book) (line : List ℕ) (t : Tok) (v : Verdict) (o : Option Ty) (x : Typ) → some (type_is k x) ≡ o → ((i : TypeId) → x ≡ Of i → ⊥) → verdict_said k t v ≡ wrong t 7 → FieldTurn k line o t (Ok v)
field_plain k line t v o Num e h m = subst (λ x. FieldTurn k line x t (Ok v)) e (k_yes false, refl, m)
field_plain k line t v o Truth e h m = subst (λ x. FieldTurn k line x t (Ok v)) e (k_yes false, refl, m)
field_plain k line t v o (Of i) e h m = absurd (h i refl)

pub field_there : (k : Book) (line : List ℕ) (t : Tok) (v : Verdict) (o : Option Ty) (g : Origin) (s : Sig) → some (ty_of g) ≡ o → k.knows (q_there g.file g.name) ≡ has (k_sig s) → verdict_said k t v ≡ member_said t s → FieldTurn k line o t (Ok v)
field_there k line t v o g s e h m = subst (λ x. FieldTurn k line x t (Ok v)) e (k_sig s, h, m ∙ same_member s t [] [] g.file g.name)

-- an operation that asks nothing
pub asks_none : (g : List ℕ → Book) (b : Bounds) (p q : Place) (ws vs : List ℕ) (o e : Op) → e ≡ o → ((l : List ℕ) (σ : State) → asks (op_is l o) σ ≡ none) → Goes g b p ws q vs (λ l. op_is l o) → TurnSays g b p ws vs (λ l. op_is l e) (Ok q)
asks_none g b p q ws vs o e i n s = subst (λ x. TurnSays g b p ws vs (λ l. op_is l x) (Ok q)) (sym i) (k_yes false, ap (fetch (g (take b.base ws)).knows) (n (take b.len ws) (means (g (take b.base ws)) (take b.len ws) b p ws)), s (k_yes false))
