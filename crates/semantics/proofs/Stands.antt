-- All that is said of a line stands in it, and its links stand at names and go to what these mean.
use mathlib.Core.Path.{◌≡◌, refl, subst}
use mathlib.Core.Bool.{Bool, true, false, ◌||◌}
use mathlib.Core.List.{List, [], ◌∷◌, ◌++◌}
use mathlib.Core.Logic.{inl, inr}
use mathlib.Core.Option.{Option, some, none}
use Prim.Native.Nat.{ℕ, ◌≤◌, ◌<◌}
use native.Mathlib.Omega.{arith}
use lib.ListN.{length}
use Rattle.base.specs.Base.{Word, same}
use Rattle.lexer.specs.Tokens.{Tok, Line, pieces}
use Rattle.lexer.specs.Words.{is_name, is_type, k_num, k_bool}
use Rattle.lexer.specs.Theorems.{Rising}
use Rattle.lexer.proofs.Rises.{pieces_rise}
use Rattle.grammar.specs.Grammar.{E, e_num, e_name, e_call, e_field, e_op, e_if, e_let, e_par, Es, no, and_then, Field, Item, nothing, i_use, i_kind, i_rec, i_def, i_bad, item}
use Rattle.semantics.specs.Names.{Sig}
use Rattle.semantics.specs.Check.{Fault, Typed, Link, Local, Look, find, links_in, ty_in, check, locals, of_item}
use Rattle.semantics.specs.Theorems.{Each, Among, Part, parts, all_parts, item_parts, StandsIn, WithinLine, LinksMean, BoundInLine, Means, Leads, name_in, type_words, field_types}
use Rattle.semantics.proofs.Lists.{each_cat, each_map, each_of, each_at, one_of}
use Rattle.semantics.proofs.Gather.{Says, Node, Faulty, On, item_says, item_tokens, field_names, token_in, TypeLinked, Uses, use_link}
use Rattle.semantics.proofs.Sits.{Sound, Rise, Named, Typeword, Fine, Fines, fine_sits, Placed, placed}

-- the parts of an expression that stands in order stand in order
module _ (Q : Tok → Type 0) (n : ℕ) (here : Look) (there : Word → Word → Sig) where
  abbrev pub FinePart : Part → Type 0
  FinePart p = Fine Q n p.expr

  mutual
    pub parts_fine : (g : List Local) (e : E) → Fine Q n e → Each FinePart (parts here there g e)
    parts_fine g (e_num t) f = (f, tt)
    parts_fine g (e_name t) f = (f, tt)
    parts_fine g (e_call h es m) f = (f, all_fine g es f.3)
    parts_fine g (e_field e x) f = (f, parts_fine g e f.0)
    parts_fine g (e_op o a b) f = (f, each_cat FinePart (parts here there g a) (parts here there g b) (parts_fine g a f.0) (parts_fine g b f.1))
    parts_fine g (e_if m a b c) f = (f, each_cat FinePart (parts here there g a) (parts here there g b ++ parts here there g c) (parts_fine g a f.0) (each_cat FinePart (parts here there g b) (parts here there g c) (parts_fine g b f.1) (parts_fine g c f.2)))
    parts_fine g (e_let m x a b) f = let l : Local = record { name = x; ty = ty_in (check here there g a) } in (f, each_cat FinePart (parts here there g a) (parts here there (l ∷ g) b) (parts_fine g a f.1) (parts_fine (l ∷ g) b f.2))
    parts_fine g (e_par m e k) f = (f, parts_fine g e f.0)

    all_fine : (g : List Local) (es : Es) → Fines Q n es → Each FinePart (all_parts here there g es)
    all_fine g no f = tt
    all_fine g (and_then e es) f = each_cat FinePart (parts here there g e) (all_parts here there g es) (parts_fine g e f.0) (all_fine g es f.1)

  none_some : (t : Tok) → ◌≡◌ {A = Option Tok} none (some t) → ⊥
  none_some t e = let z : ◌≡◌ {A = ℕ} 0 1 = cc in omega arith

  pub name_fine : (e : E) (t : Tok) → Fine Q n e → name_in e ≡ some t → Named Q n t
  name_fine (e_num u) t f e = absurd (none_some t e)
  name_fine (e_name u) t f e = let q : u ≡ t = cc in subst (Named Q n) q f
  name_fine (e_call u es m) t f e = let q : u ≡ t = cc in subst (Named Q n) q f.0
  name_fine (e_field a x) t f e = absurd (none_some t e)
  name_fine (e_op o a b) t f e = absurd (none_some t e)
  name_fine (e_if m a b c) t f e = absurd (none_some t e)
  name_fine (e_let m x a b) t f e = absurd (none_some t e)
  name_fine (e_par m a k) t f e = absurd (none_some t e)

  pub token_fine : (e : E) (t : Tok) → Fine Q n e → token_in e ≡ some t → Sound Q n t
  token_fine (e_num u) t f e = absurd (none_some t e)
  token_fine (e_name u) t f e = let q : u ≡ t = cc in subst (Sound Q n) q f.0
  token_fine (e_call u es m) t f e = let q : u ≡ t = cc in subst (Sound Q n) q f.0.0
  token_fine (e_field a x) t f e = let q : x ≡ t = cc in subst (Sound Q n) q f.1
  token_fine (e_op o a b) t f e = absurd (none_some t e)
  token_fine (e_if m a b c) t f e = absurd (none_some t e)
  token_fine (e_let m x a b) t f e = absurd (none_some t e)
  token_fine (e_par m a k) t f e = absurd (none_some t e)

  pub item_fine : (it : Item) → Placed Q n it → Each FinePart (item_parts here there it)
  item_fine nothing p = tt
  item_fine (i_use t) p = tt
  item_fine (i_kind t cs) p = tt
  item_fine (i_rec t fs) p = tt
  item_fine (i_def t ps r e) p = parts_fine (locals here ps []) e p.4
  item_fine (i_bad a b) p = tt

  pub words_fine : (it : Item) → Placed Q n it → Each (Typeword Q n) (type_words it)
  words_fine nothing p = tt
  words_fine (i_use t) p = tt
  words_fine (i_kind t cs) p = tt
  words_fine (i_rec t fs) p = p.2
  words_fine (i_def t ps r e) p = (p.3, p.2)
  words_fine (i_bad a b) p = tt

  slots_sound : (xs : List Field) → Each (Named Q n) (field_names xs) → Each (Typeword Q n) (field_types xs) → Each (Sound Q n) (field_names xs ++ field_types xs)
  slots_sound xs h k = each_cat (Sound Q n) (field_names xs) (field_types xs) (each_map (Named Q n) (Sound Q n) (field_names xs) (λ t s. s.0) h) (each_map (Typeword Q n) (Sound Q n) (field_types xs) (λ t s. s.0) k)

  pub tokens_sound : (it : Item) → Placed Q n it → Each (Sound Q n) (item_tokens it)
  tokens_sound nothing p = tt
  tokens_sound (i_use t) p = (p.0, tt)
  tokens_sound (i_kind t cs) p = (p.0.0, each_map (Named Q n) (Sound Q n) cs (λ u s. s.0) p.1)
  tokens_sound (i_rec t fs) p = (p.0.0, slots_sound fs p.1 p.2)
  tokens_sound (i_def t ps r e) p = (p.0.0, (p.3.0, slots_sound ps p.1 p.2))
  tokens_sound (i_bad a b) p = tt

  -- names bound in the line are pieces
  abbrev pub KnownLocal : Local → Type 0
  KnownLocal x = Q x.name

  abbrev pub KnownPart : Part → Type 0
  KnownPart p = Each KnownLocal p.locals

  mutual
    pub parts_bound : (g : List Local) (e : E) → Each KnownLocal g → Fine Q n e → Each KnownPart (parts here there g e)
    parts_bound g (e_num t) b f = (b, tt)
    parts_bound g (e_name t) b f = (b, tt)
    parts_bound g (e_call h es m) b f = (b, all_bound g es b f.3)
    parts_bound g (e_field e x) b f = (b, parts_bound g e b f.0)
    parts_bound g (e_op o x y) b f = (b, each_cat KnownPart (parts here there g x) (parts here there g y) (parts_bound g x b f.0) (parts_bound g y b f.1))
    parts_bound g (e_if m x y z) b f = (b, each_cat KnownPart (parts here there g x) (parts here there g y ++ parts here there g z) (parts_bound g x b f.0) (each_cat KnownPart (parts here there g y) (parts here there g z) (parts_bound g y b f.1) (parts_bound g z b f.2)))
    parts_bound g (e_let m v x y) b f = let l : Local = record { name = v; ty = ty_in (check here there g x) } in (b, each_cat KnownPart (parts here there g x) (parts here there (l ∷ g) y) (parts_bound g x b f.1) (parts_bound (l ∷ g) y (f.0.known, b) f.2))
    parts_bound g (e_par m e k) b f = (b, parts_bound g e b f.0)

    all_bound : (g : List Local) (es : Es) → Each KnownLocal g → Fines Q n es → Each KnownPart (all_parts here there g es)
    all_bound g no b f = tt
    all_bound g (and_then e es) b f = each_cat KnownPart (parts here there g e) (all_parts here there g es) (parts_bound g e b f.0) (all_bound g es b f.1)

  locals_known : (ps : List Field) (g : List Local) → Each (Named Q n) (field_names ps) → Each KnownLocal g → Each KnownLocal (locals here ps g)
  locals_known [] g h b = b
  locals_known (x ∷ xs) g h b = locals_known xs _ h.1 (h.0.0.known, b)

  pub item_bound : (it : Item) → Placed Q n it → Each KnownPart (item_parts here there it)
  item_bound nothing p = tt
  item_bound (i_use t) p = tt
  item_bound (i_kind t cs) p = tt
  item_bound (i_rec t fs) p = tt
  item_bound (i_def t ps r e) p = parts_bound (locals here ps []) e (locals_known ps [] p.1 tt) p.4
  item_bound (i_bad a b) p = tt

-- a word for a type that isn't num or bool is a name
type_name : (w : Word) → is_type w ≡ true → same w k_num ≡ false → same w k_bool ≡ false → is_name w ≡ true
type_name w e p q = go (same w k_num) (same w k_bool) (is_name w) e p q
  where
    go : (a b c : Bool) → (a || (b || c)) ≡ true → a ≡ false → b ≡ false → c ≡ true
    go true b c e p q = cc
    go false true c e p q = cc
    go false false c e p q = e

module _ (me : Word) (here : Look) (there : Word → Word → Sig) (file_there : Word → Bool) (before : List Word) (l : Line) where
  abbrev Q : Tok → Type 0
  Q t = Among t (pieces l)

  abbrev n : ℕ
  n = length l.bytes

  rise_of : (lo : ℕ) (ts : List Tok) → ((t : Tok) → Among t ts → Q t) → Rising l.bytes lo ts → Rise Q n lo ts
  rise_of lo [] h r = tt
  rise_of lo (t ∷ ts) h r = let s : t.from < t.to = r.0.some_bytes in (record { known = h t (inl refl); sits = omega arith; high = r.0.within }, r.0.behind, rise_of t.to ts (λ u a. h u (inr a)) r.1)

  line_placed : Placed Q n (item l)
  line_placed = placed Q n (pieces l) (rise_of 0 (pieces l) (λ t a. a) (pieces_rise l.bytes))

  abbrev PF : Fault → Type 0
  PF f = StandsIn n f.from f.to

  abbrev PT : Typed → Type 0
  PT t = StandsIn n t.from t.to

  -- a link at a name of the line, which it means
  abbrev Right : Link → Type 0
  Right k = (t : Tok) × Q t × (is_name t.w ≡ true) × (k.from ≡ t.from) × (k.to ≡ t.to) × Means me here there file_there (item l) t k

  abbrev PL : Link → Type 0
  PL k = StandsIn n k.from k.to × Right k

  at_token : (t : Tok) → Sound Q n t → Faulty PF PT PL t
  at_token t s k ne = (s.sits, s.high)

  on_name : (t : Tok) (k : Link) → Named Q n t → On t k → Means me here there file_there (item l) t k → PL k
  on_name t k s o m = let a : k.from ≡ t.from = o.0 in let b : k.to ≡ t.to = o.1 in let c : t.from ≤ t.to = s.0.sits in let d : t.to ≤ n = s.0.high in ((omega arith, omega arith), (t, s.0.known, s.1, a, b, m))

  nodes : Each (Node PF PT PL here there) (item_parts here there (item l))
  nodes = each_of (Node PF PT PL here there) (item_parts here there (item l)) (λ p a. let f = each_at (FinePart Q n here there) p (item_parts here there (item l)) a (item_fine Q n here there (item l) line_placed) in record {
    blamed = λ u q. fine_sits Q n p.expr f;
    token = λ t e. at_token t (token_fine Q n here there p.expr t f e);
    noted = λ u q. fine_sits Q n p.expr f;
    linked = λ t e k o m. on_name t k (name_fine Q n here there p.expr t f e) o (inr (inr (one_of (λ q. (name_in q.expr ≡ some t) × Leads (here t.w) (find q.locals t.w) k) p (item_parts here there (item l)) a (e, m))));
  })

  typed_links : Each (TypeLinked PF PT PL here there) (type_words (item l))
  typed_links = each_of (TypeLinked PF PT PL here there) (type_words (item l)) (λ t a p q k o m. let s = each_at (Typeword Q n) t (type_words (item l)) a (words_fine Q n here there (item l) line_placed) in on_name t k (s.0, type_name t.w s.1 p q) o (inr (inl (a, m))))

  bad_at : (a b : ℕ) → item l ≡ i_bad a b → (a ≤ b) × (b ≤ n)
  bad_at a b e = subst (Placed Q n) e line_placed

  used_at : (t : Tok) → item l ≡ i_use t → Uses PF PT PL here there me file_there before t
  used_at t e p q = on_name t (use_link PF PT PL here there me file_there before t) (subst (Placed Q n) e line_placed) (refl, refl) (inl (e, refl, refl, p, q))

  line_says : Says PF PT PL (of_item me here there file_there before (item l))
  line_says = item_says PF PT PL here there me file_there before (item l) (record { tokens = each_map (Sound Q n) (Faulty PF PT PL) (item_tokens (item l)) at_token (tokens_sound Q n here there (item l) line_placed); bad = bad_at; uses = used_at; types = typed_links; nodes = nodes })

pub within_line : WithinLine
within_line me here there file_there before l =
    let s = line_says me here there file_there before l in
    (s.faults, s.types, each_map (PL me here there file_there before l) (λ k. StandsIn (length l.bytes) k.from k.to) (links_in (of_item me here there file_there before (item l))) (λ k h. h.0) s.links)

pub links_mean : LinksMean
links_mean me here there file_there before l = each_map (PL me here there file_there before l) (Right me here there file_there before l) (links_in (of_item me here there file_there before (item l))) (λ k h. h.1) (line_says me here there file_there before l).links

pub bound_in_line : BoundInLine
bound_in_line here there l = item_bound (λ t. Among t (pieces l)) (length l.bytes) here there (item l) (line_placed [] here there (λ w. false) [] l)
