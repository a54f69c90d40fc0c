-- What a line declares stands in the line's pieces.
use Rattle.std.proofs.Common.{◌≡◌, ℕ, ◌<◌, List, [], ◌∷◌, length, sym, refl, ap, subst, inl, inr, arith}
use Rattle.lexer.specs.Tokens.{Tok, Line, pieces}
use Rattle.lexer.specs.Theorems.{Rising}
use Rattle.lexer.proofs.Rises.{pieces_rise}
use Rattle.grammar.specs.Grammar.{Field, Item, nothing, i_use, i_kind, i_rec, i_def, i_bad, item}
use Rattle.semantics.specs.Names.{decl, consts, decls_item}
use Rattle.semantics.specs.Theorems.{Each, Among, field_types}
use Rattle.semantics.proofs.Lists.{one_of}
use Rattle.semantics.proofs.Gather.{field_names}
use Rattle.semantics.proofs.Sits.{Rise, Named, Typeword, Placed, placed}
use Rattle.declarations.specs.Declares.{TypeWord}
use Rattle.declarations.specs.Theorems.{Names, FieldIn, DeclIn, DeclaredInLine}

module _ (l : Line) where
  abbrev Q : Tok → Type 0
  Q t = Among t (pieces l)

  abbrev n : ℕ
  n = length l.bytes

  rise_of : (lo : ℕ) (ts : List Tok) → ((t : Tok) → Among t ts → Q t) → Rising l.bytes lo ts → Rise Q n lo ts
  rise_of lo [] h r = tt
  rise_of lo (t ∷ ts) h r = let s : t.from < t.to = r.0.some_bytes in (record { known = h t (inl refl); sits = omega arith; high = r.0.within }, r.0.behind, rise_of t.to ts (λ u a. h u (inr a)) r.1)

  line_placed : Placed Q n (item l)
  line_placed = placed Q n (pieces l) (rise_of 0 (pieces l) (λ t a. a) (pieces_rise l.bytes))

  fields_in : (fs : List Field) → Each (Named Q n) (field_names fs) → Each (Typeword Q n) (field_types fs) → Each (FieldIn (pieces l)) fs
  fields_in [] a b = tt
  fields_in (x ∷ xs) a b = ((a.0.0.known, b.0.0.known), fields_in xs a.1 b.1)

  decl_in : (s k : ℕ) (t u : Tok) (fs : List Field) → Q t → Q u → Each (FieldIn (pieces l)) fs → DeclIn (pieces l) (decl s t k u.w fs)
  decl_in s k t u fs a b h = (one_of (Names (decl s t k u.w fs)) t (pieces l) a (refl, refl, refl), one_of (λ v. u.w ≡ v.w) u (pieces l) b refl, h)

  consts_in : (s : ℕ) (k : Tok) (cs : List Tok) → Q k → Each (Named Q n) cs → Each (DeclIn (pieces l)) (consts s k.w cs)
  consts_in s k [] q h = tt
  consts_in s k (c ∷ cs) q h = (decl_in s 1 c k [] h.0.0.known q tt, consts_in s k cs q h.1)

  decls_in : (s : ℕ) (it : Item) → Placed Q n it → Each (DeclIn (pieces l)) (decls_item s it)
  decls_in s nothing p = tt
  decls_in s (i_use t) p = tt
  decls_in s (i_kind t cs) p = (decl_in s 0 t t [] p.0.0.known p.0.0.known tt, consts_in s t cs p.0.0.known p.1)
  decls_in s (i_rec t fs) p = (decl_in s 2 t t fs p.0.0.known p.0.0.known (fields_in fs p.1 p.2), tt)
  decls_in s (i_def t ps r e) p = (decl_in s 3 t r ps p.0.0.known p.3.0.known (fields_in ps p.1 p.2), tt)
  decls_in s (i_bad a b) p = tt

  type_of : (it : Item) (t : Tok) → Placed Q n it → TypeWord it t → Q t
  type_of nothing t p e = absurd e
  type_of (i_use u) t p e = absurd e
  type_of (i_kind k cs) t p e = subst Q (sym e) p.0.0.known
  type_of (i_rec u fs) t p e = subst Q (sym e) p.0.0.known
  type_of (i_def u ps r b) t p e = subst Q (sym e) p.3.0.known
  type_of (i_bad a b) t p e = absurd e

  -- the piece of the type of what a line declares is one of the line's
  pub type_in : (t : Tok) → TypeWord (item l) t → Among t (pieces l)
  type_in t e = type_of (item l) t line_placed e

  use_of : (it : Item) (t : Tok) → Placed Q n it → it ≡ i_use t → Q t
  use_of it t p e = (subst (Placed Q n) e p).0.known

  -- the piece that names the file that a line uses is one of the line's
  pub use_in : (t : Tok) → item l ≡ i_use t → Among t (pieces l)
  use_in t e = use_of (item l) t line_placed e

  pub line_in : (s : ℕ) → Each (DeclIn (pieces l)) (decls_item s (item l))
  line_in s = decls_in s (item l) line_placed

pub declared_in_line : DeclaredInLine
declared_in_line = (λ s l. line_in l s, λ s l a b e. ap (decls_item s) e)
