-- Constants and fields found again from their operations.
use Rattle.std.proofs.Common.{◌≡◌, ℕ, zero, suc, ◌≤◌, List, [], ◌∷◌, length, Some, None, Option, sym, refl, ap, ◌∙◌, arith}
use Rattle.std.specs.List.{slice_get}
use Rattle.base.specs.Base.{Word}
use Rattle.lexer.specs.Tokens.{Tok}
use Rattle.grammar.specs.Grammar.{Field}
use Rattle.grammar.specs.Code.{Op as Flat, slots_onto, consts_code, o_const, o_slot}
use Rattle.semantics.specs.Names.{decl, consts}
use Rattle.parser.specs.Rows.{ops, op_is, span_of}
use Rattle.parser.specs.declared.code.Span.{Span}
use Rattle.parser.specs.declared.code.Op.{Op}
use Rattle.parser.specs.declared.code.Op.TheVariants.{Const}
pub use Rattle.syntax.proofs.Views.{ops_length}

-- an operation of a line, by another name of the line and of its operations
pub moved : (line own code : List ℕ) (os : List Flat) (i : ℕ) (r : Option Flat) → ops line code ≡ os → own ≡ line → slice_get (ops own code) i ≡ r → slice_get os i ≡ r
moved line own code os i r e p h = ap (λ l. slice_get l i) (sym e) ∙ (ap (λ l. slice_get (ops l code) i) (sym p) ∙ h)

-- a constant's operation, by its name
pub const_is : (line : List ℕ) (op : Op) (s : Span) (t : Tok) → op ≡ Const s → t ≡ span_of line s → op_is line op ≡ o_const t
const_is line op s t e p = ap (op_is line) e ∙ ap o_const (sym p)

-- a constant for each operation
pub consts_length : (s : ℕ) (k : Word) (cs : List Tok) → length (consts s k cs) ≡ length (consts_code cs)
consts_length s k [] = refl
consts_length s k (t ∷ ts) = ap suc (consts_length s k ts)

pub consts_is : (cs : List Tok) (i : ℕ) (o : Flat) → slice_get (consts_code cs) i ≡ Some o → (t : Tok) × (o ≡ o_const t)
consts_is [] i o e = let z : ◌≡◌ {A = ℕ} 0 1 = cc in absurd (omega arith)
consts_is (t ∷ ts) zero o e = (t, cc)
consts_is (t ∷ ts) (suc i) o e = consts_is ts i o e

pub consts_at : (k : Word) (cs : List Tok) (i : ℕ) (t : Tok) → slice_get (consts_code cs) i ≡ Some (o_const t) → slice_get (consts 0 k cs) i ≡ Some (decl 0 t 1 k [])
consts_at k [] i t e = let z : ◌≡◌ {A = ℕ} 0 1 = cc in absurd (omega arith)
consts_at k (u ∷ us) zero t e = let s : u ≡ t = cc in ap (λ v. Some (decl 0 v 1 k [])) s
consts_at k (u ∷ us) (suc i) t e = consts_at k us i t e

pub consts_past : (k : Word) (cs : List Tok) (i : ℕ) → slice_get (consts_code cs) i ≡ None → length (consts 0 k cs) ≤ i
consts_past k [] i e = omega arith
consts_past k (t ∷ ts) zero e = let z : ◌≡◌ {A = ℕ} 0 1 = cc in absurd (omega arith)
consts_past k (t ∷ ts) (suc i) e = omega (arith, consts_past k ts i e)

-- a field for each operation
pub slots_is : (fs : List Field) (i : ℕ) (o : Flat) → slice_get (slots_onto fs []) i ≡ Some o → (f : Field) × (o ≡ o_slot f)
slots_is [] i o e = let z : ◌≡◌ {A = ℕ} 0 1 = cc in absurd (omega arith)
slots_is (f ∷ fs) zero o e = (f, cc)
slots_is (f ∷ fs) (suc i) o e = slots_is fs i o e

pub slots_at : (fs : List Field) (i : ℕ) (f : Field) → slice_get (slots_onto fs []) i ≡ Some (o_slot f) → slice_get fs i ≡ Some f
slots_at [] i f e = let z : ◌≡◌ {A = ℕ} 0 1 = cc in absurd (omega arith)
slots_at (g ∷ fs) zero f e = let s : g ≡ f = cc in ap Some s
slots_at (g ∷ fs) (suc i) f e = slots_at fs i f e

pub slots_past : (fs : List Field) (i : ℕ) → slice_get (slots_onto fs []) i ≡ None → length fs ≤ i
slots_past [] i e = omega arith
slots_past (f ∷ fs) zero e = let z : ◌≡◌ {A = ℕ} 0 1 = cc in absurd (omega arith)
slots_past (f ∷ fs) (suc i) e = omega (arith, slots_past fs i e)
