-- What a line declares, and its pieces.
use Rattle.std.proofs.Common.{◌≡◌, ℕ, zero, suc, ◌+◌, ◌-◌, ◌<◌, ◌≤◌, min, List, [], ◌∷◌, length, take, drop, Some, sym, refl, ap, ◌∙◌, subst, inl, inr, arith}
use Rattle.std.specs.List.{slice_get}
use Rattle.std.proofs.lemmas.List.{length-take, length-drop, take-take, drop-drop}
use Rattle.std.proofs.lemmas.Slice.{between_is}
use Rattle.base.specs.Base.{Word}
use Rattle.lexer.specs.Tokens.{Tok, tok, toks, gap}
use Rattle.lexer.specs.Theorems.{Lies, Rising}
use Rattle.lexer.proofs.Rises.{pieces_rise}
use Rattle.grammar.specs.Grammar.{Field, Item, nothing, i_use, i_kind, i_rec, i_def, i_bad}
use Rattle.grammar.specs.Code.{slots_onto}
use Rattle.semantics.specs.Names.{Decl, decl, consts, decls_item, uses_item}
use Rattle.semantics.specs.Theorems.{Each, One, Among}
use Rattle.semantics.proofs.Lists.{each_at, each_map}
use Rattle.declarations.specs.Declares.{TypeWord}
use Rattle.declarations.specs.Theorems.{Names, FieldIn as FieldAmong, DeclIn}
use Rattle.declarations.proofs.Inline.{line_in}
use Rattle.syntax.specs.Line.{item_in}
use Rattle.collector.specs.Entries.{TokIn, FieldIn, Inside}
use Rattle.collector.specs.Says.{plain}

pub plain_decls : (s : ℕ) (it : Item) → decls_item s (plain it) ≡ decls_item s it
plain_decls s nothing = refl
plain_decls s (i_use t) = refl
plain_decls s (i_kind t cs) = refl
plain_decls s (i_rec t fs) = refl
plain_decls s (i_def t ps r e) = refl
plain_decls s (i_bad a b) = refl

pub plain_uses : (it : Item) → uses_item (plain it) ≡ uses_item it
plain_uses nothing = refl
plain_uses (i_use t) = refl
plain_uses (i_kind t cs) = refl
plain_uses (i_rec t fs) = refl
plain_uses (i_def t ps r e) = refl
plain_uses (i_bad a b) = refl

pub plain_use : (it : Item) (t : Tok) → plain it ≡ i_use t → it ≡ i_use t
plain_use nothing t e = e
plain_use (i_use u) t e = e
plain_use (i_kind u cs) t e = e
plain_use (i_rec u fs) t e = e
plain_use (i_def u ps r b) t e = e
plain_use (i_bad a b) t e = let z : ◌≡◌ {A = ℕ} 0 1 = cc in absurd (omega arith)

pub plain_type : (it : Item) (t : Tok) → TypeWord (plain it) t → TypeWord it t
plain_type nothing t e = e
plain_type (i_use u) t e = e
plain_type (i_kind u cs) t e = e
plain_type (i_rec u fs) t e = e
plain_type (i_def u ps r b) t e = e
plain_type (i_bad a b) t e = e

consts_typed : (s : ℕ) (k : Word) (cs : List Tok) → Each (λ d. d.ty ≡ k) (consts s k cs)
consts_typed s k [] = tt
consts_typed s k (c ∷ cs) = (refl, consts_typed s k cs)

-- all that an item declares has the type of that piece
pub typed : (s : ℕ) (it : Item) (t : Tok) → TypeWord it t → Each (λ d. d.ty ≡ t.w) (decls_item s it)
typed s nothing t e = tt
typed s (i_use u) t e = tt
typed s (i_kind u cs) t e = (ap (λ v. v.w) (sym e), subst (λ v. Each (λ d. d.ty ≡ v.w) (consts s u.w cs)) (sym e) (consts_typed s u.w cs))
typed s (i_rec u fs) t e = (ap (λ v. v.w) (sym e), tt)
typed s (i_def u ps r b) t e = (ap (λ v. v.w) (sym e), tt)
typed s (i_bad a b) t e = tt

pub each_nth : {A : Type 0} (P : A → Type 0) (xs : List A) (i : ℕ) (x : A) → Each P xs → slice_get xs i ≡ Some x → P x
each_nth P [] i x p e = let z : ◌≡◌ {A = ℕ} 0 1 = cc in absurd (omega arith)
each_nth P (y ∷ ys) zero x p e = let s : y ≡ x = cc in subst P s p.0
each_nth P (y ∷ ys) (suc i) x p e = each_nth P ys i x p.1 e

pub nth_some : {A : Type 0} (xs : List A) (i : ℕ) → i < length xs → (x : A) × (slice_get xs i ≡ Some x)
nth_some [] i h = absurd (omega arith)
nth_some (y ∷ ys) zero h = (y, refl)
nth_some (y ∷ ys) (suc i) h = nth_some ys i (omega arith)

pub slots_long : (fs : List Field) → length (slots_onto fs []) ≡ length fs
slots_long [] = refl
slots_long (f ∷ fs) = ap suc (slots_long fs)

lie : (line : List ℕ) (lo : ℕ) (ts : List Tok) → Rising line lo ts → Each (Lies line 0) ts
lie line lo [] r = tt
lie line lo (t ∷ ts) r = (record { behind = omega arith; some_bytes = r.0.some_bytes; within = r.0.within; bytes = r.0.bytes }, lie line t.to ts r.1)

-- the pieces of a line lie in it
pub lies : (line : List ℕ) (t : Tok) → Among t (toks gap 0 line) → Lies line 0 t
lies line t a = each_at (Lies line 0) t (toks gap 0 line) a (lie line 0 (toks gap 0 line) (pieces_rise line))

-- what names a declaration of the line lies in it
pub decl_in : (line : List ℕ) (s i : ℕ) (x : Decl) → slice_get (decls_item s (item_in line)) i ≡ Some x → DeclIn (toks gap 0 line) x
decl_in line s i x e = each_nth (DeclIn (toks gap 0 line)) (decls_item s (item_in line)) i x (line_in (record { start = s; bytes = line }) s) e

named : (line : List ℕ) (x : Decl) (ts : List Tok) → Each (Lies line 0) ts → One (Names x) ts → Lies line 0 (tok x.name x.from x.to)
named line x [] p o = absurd o
named line x (t ∷ ts) p (inl n) = record { behind = omega arith; some_bytes = let h = p.0.some_bytes in let a = n.1 in let b = n.2 in omega arith; within = let h = p.0.within in let b = n.2 in omega arith; bytes = n.0 ∙ p.0.bytes ∙ ap (λ a. take (t.to - a) (drop a line)) (sym n.1) ∙ ap (λ b. take (b - x.from) (drop x.from line)) (sym n.2) }
named line x (t ∷ ts) p (inr o) = named line x ts p.1 o

pub name_lies : (line : List ℕ) (x : Decl) → DeclIn (toks gap 0 line) x → Lies line 0 (tok x.name x.from x.to)
name_lies line x d = named line x (toks gap 0 line) (lie line 0 (toks gap 0 line) (pieces_rise line)) d.0

-- a piece of a line that stands in the texts stands there
pub in_texts : (m : List ℕ) (o len : ℕ) (line : List ℕ) (t : Tok) → take len (drop o m) ≡ line → o + len ≤ length m → Lies line 0 t → TokIn m o t
in_texts m o len line t e h p =
    let a = t.from in
    let b = t.to in
    let n : length line ≡ len = ap length (sym e) ∙ length-take len (drop o m) ∙ ap (min len) (length-drop o m) ∙ omega arith in
    let w = p.within in
    let cut : take (b - a) (drop a line) ≡ take (b - a) (drop (o + a) m) =
    ap (λ xs. take (b - a) (drop a xs)) (sym e) ∙ (between_is (take len (drop o m)) a b ∙ ap (drop a) (take-take b len (drop o m) (omega arith)) ∙ sym (between_is (drop o m) a b)) ∙ ap (take (b - a)) (drop-drop a o m) in
    let sb = p.some_bytes in record { sits = omega arith; ends = omega arith; bytes = sym cut ∙ sym p.bytes }

fields_lie : (m : List ℕ) (o len : ℕ) (line : List ℕ) (fs : List Field) → take len (drop o m) ≡ line → o + len ≤ length m → Each (FieldAmong (toks gap 0 line)) fs → Each (FieldIn m o) fs
fields_lie m o len line fs e h p = each_map (FieldAmong (toks gap 0 line)) (FieldIn m o) fs (λ f q. (in_texts m o len line f.name e h (lies line f.name q.0), in_texts m o len line f.ty e h (lies line f.ty q.1))) p

-- all that a declaration of such a line names stands in the texts
pub entry_inside : (m : List ℕ) (o len : ℕ) (line : List ℕ) (x : Decl) (t : Tok) → take len (drop o m) ≡ line → o + len ≤ length m → DeclIn (toks gap 0 line) x → Among t (toks gap 0 line) → x.ty ≡ t.w → Inside m (record { decl = x; ty = t; line = o })
entry_inside m o len line x t e h d a y = record {
  name_in = in_texts m o len line (tok x.name x.from x.to) e h (name_lies line x d);
  type_in = in_texts m o len line t e h (lies line t a);
  type_is = y;
  fields_in = fields_lie m o len line x.fields e h d.2;
}

-- the same declarations with another beginning of the line
abbrev pub begun : ℕ → Decl → Decl
begun s d = record { name = d.name; start = s; from = d.from; to = d.to; sort = d.sort; ty = d.ty; fields = d.fields }

consts_begun : (s : ℕ) (k : Word) (cs : List Tok) (i : ℕ) (x : Decl) → slice_get (consts 0 k cs) i ≡ Some x → slice_get (consts s k cs) i ≡ Some (begun s x)
consts_begun s k [] i x e = let z : ◌≡◌ {A = ℕ} 0 1 = cc in absurd (omega arith)
consts_begun s k (c ∷ cs) zero x e = let h : decl 0 c 1 k [] ≡ x = cc in ap (λ d. Some (begun s d)) h
consts_begun s k (c ∷ cs) (suc i) x e = consts_begun s k cs i x e

only_begun : (s : ℕ) (d : Decl) (i : ℕ) (x : Decl) → slice_get (d ∷ []) i ≡ Some x → slice_get (begun s d ∷ []) i ≡ Some (begun s x)
only_begun s d zero x e = let h : d ≡ x = cc in ap (λ d. Some (begun s d)) h
only_begun s d (suc i) x e = let z : ◌≡◌ {A = ℕ} 0 1 = cc in absurd (omega arith)

pub item_begun : (s : ℕ) (it : Item) (i : ℕ) (x : Decl) → slice_get (decls_item 0 it) i ≡ Some x → slice_get (decls_item s it) i ≡ Some (begun s x)
item_begun s nothing i x e = let z : ◌≡◌ {A = ℕ} 0 1 = cc in absurd (omega arith)
item_begun s (i_use t) i x e = let z : ◌≡◌ {A = ℕ} 0 1 = cc in absurd (omega arith)
item_begun s (i_kind t cs) zero x e = let h : decl 0 t 0 t.w [] ≡ x = cc in ap (λ d. Some (begun s d)) h
item_begun s (i_kind t cs) (suc i) x e = consts_begun s t.w cs i x e
item_begun s (i_rec t fs) i x e = only_begun s (decl 0 t 2 t.w fs) i x e
item_begun s (i_def t ps r b) i x e = only_begun s (decl 0 t 3 r.w ps) i x e
item_begun s (i_bad a b) i x e = let z : ◌≡◌ {A = ℕ} 0 1 = cc in absurd (omega arith)

pub begun_same : (s : ℕ) (it : Item) (i : ℕ) (x y : Decl) → slice_get (decls_item 0 it) i ≡ Some x → slice_get (decls_item s it) i ≡ Some y → y ≡ begun s x
begun_same s it i x y e f = let g = item_begun s it i x e in cc

consts_many : (s r : ℕ) (k : Word) (cs : List Tok) → length (consts s k cs) ≡ length (consts r k cs)
consts_many s r k [] = refl
consts_many s r k (c ∷ cs) = ap suc (consts_many s r k cs)

pub item_many : (s r : ℕ) (it : Item) → length (decls_item s it) ≡ length (decls_item r it)
item_many s r nothing = refl
item_many s r (i_use t) = refl
item_many s r (i_kind t cs) = ap suc (consts_many s r t.w cs)
item_many s r (i_rec t fs) = refl
item_many s r (i_def t ps u b) = refl
item_many s r (i_bad a b) = refl
