-- Each test on a piece's word, as a test on its kind: what the parser asks of a token instead of comparing words.
use Rattle.std.proofs.Common.{◌≡◌, ℕ, Bool, true, false, not, ◌&&◌, ◌||◌, eqb, List, [], ◌∷◌, sym, refl, ap, ◌∙◌, subst, eqb-true}
use mathlib.Core.Bool.{false≢true}
use mathlib.Core.Option.{Option, some, none}
use Rattle.std.specs.List.{list_all}
use Rattle.lexer.specs.Parts.{digit}
use Rattle.base.specs.Base.{pick, or_else, when1, Word, same, among}
use Rattle.lexer.specs.Tokens.{letter}
use Rattle.lexer.specs.Words.{k_use, k_kind, k_rec, k_def, k_let, k_in, k_if, k_then, k_else, k_and, k_or, k_num, k_bool, t_lp, t_rp, t_comma, t_gets, t_is, t_less, t_plus, t_minus, t_times, t_dot, kept, first, is_number, digits, is_name, is_type, op_any}
use Rattle.lexer.specs.declared.token.Operator.TheVariants.{Plus, Minus, Times, Equal, Less, And, Or}
use Rattle.lexer.specs.declared.token.Token.{Token}
use Rattle.lexer.specs.declared.token.Token.TheVariants.{Use, Kind, Rec, Def, Let, In, If, Then, Else, Num, Bool as TypeBool, Open, Close, Comma, Gets, Dot, Sign, Number, BadNumber, Name, Other, End}
use Rattle.lexer.specs.Kinds.{operator, level_of, token_of}

-- tests on a token
abbrev pub is_use : Token → Bool
is_use Use = true
is_use Kind = false
is_use Rec = false
is_use Def = false
is_use Let = false
is_use In = false
is_use If = false
is_use Then = false
is_use Else = false
is_use Num = false
is_use TypeBool = false
is_use Open = false
is_use Close = false
is_use Comma = false
is_use Gets = false
is_use Dot = false
is_use (Sign o) = false
is_use Number = false
is_use BadNumber = false
is_use Name = false
is_use Other = false
is_use End = false

abbrev pub is_kind : Token → Bool
is_kind Use = false
is_kind Kind = true
is_kind Rec = false
is_kind Def = false
is_kind Let = false
is_kind In = false
is_kind If = false
is_kind Then = false
is_kind Else = false
is_kind Num = false
is_kind TypeBool = false
is_kind Open = false
is_kind Close = false
is_kind Comma = false
is_kind Gets = false
is_kind Dot = false
is_kind (Sign o) = false
is_kind Number = false
is_kind BadNumber = false
is_kind Name = false
is_kind Other = false
is_kind End = false

abbrev pub is_rec : Token → Bool
is_rec Use = false
is_rec Kind = false
is_rec Rec = true
is_rec Def = false
is_rec Let = false
is_rec In = false
is_rec If = false
is_rec Then = false
is_rec Else = false
is_rec Num = false
is_rec TypeBool = false
is_rec Open = false
is_rec Close = false
is_rec Comma = false
is_rec Gets = false
is_rec Dot = false
is_rec (Sign o) = false
is_rec Number = false
is_rec BadNumber = false
is_rec Name = false
is_rec Other = false
is_rec End = false

abbrev pub is_def : Token → Bool
is_def Use = false
is_def Kind = false
is_def Rec = false
is_def Def = true
is_def Let = false
is_def In = false
is_def If = false
is_def Then = false
is_def Else = false
is_def Num = false
is_def TypeBool = false
is_def Open = false
is_def Close = false
is_def Comma = false
is_def Gets = false
is_def Dot = false
is_def (Sign o) = false
is_def Number = false
is_def BadNumber = false
is_def Name = false
is_def Other = false
is_def End = false

abbrev pub is_let : Token → Bool
is_let Use = false
is_let Kind = false
is_let Rec = false
is_let Def = false
is_let Let = true
is_let In = false
is_let If = false
is_let Then = false
is_let Else = false
is_let Num = false
is_let TypeBool = false
is_let Open = false
is_let Close = false
is_let Comma = false
is_let Gets = false
is_let Dot = false
is_let (Sign o) = false
is_let Number = false
is_let BadNumber = false
is_let Name = false
is_let Other = false
is_let End = false

abbrev pub is_in : Token → Bool
is_in Use = false
is_in Kind = false
is_in Rec = false
is_in Def = false
is_in Let = false
is_in In = true
is_in If = false
is_in Then = false
is_in Else = false
is_in Num = false
is_in TypeBool = false
is_in Open = false
is_in Close = false
is_in Comma = false
is_in Gets = false
is_in Dot = false
is_in (Sign o) = false
is_in Number = false
is_in BadNumber = false
is_in Name = false
is_in Other = false
is_in End = false

abbrev pub is_if : Token → Bool
is_if Use = false
is_if Kind = false
is_if Rec = false
is_if Def = false
is_if Let = false
is_if In = false
is_if If = true
is_if Then = false
is_if Else = false
is_if Num = false
is_if TypeBool = false
is_if Open = false
is_if Close = false
is_if Comma = false
is_if Gets = false
is_if Dot = false
is_if (Sign o) = false
is_if Number = false
is_if BadNumber = false
is_if Name = false
is_if Other = false
is_if End = false

abbrev pub is_then : Token → Bool
is_then Use = false
is_then Kind = false
is_then Rec = false
is_then Def = false
is_then Let = false
is_then In = false
is_then If = false
is_then Then = true
is_then Else = false
is_then Num = false
is_then TypeBool = false
is_then Open = false
is_then Close = false
is_then Comma = false
is_then Gets = false
is_then Dot = false
is_then (Sign o) = false
is_then Number = false
is_then BadNumber = false
is_then Name = false
is_then Other = false
is_then End = false

abbrev pub is_else : Token → Bool
is_else Use = false
is_else Kind = false
is_else Rec = false
is_else Def = false
is_else Let = false
is_else In = false
is_else If = false
is_else Then = false
is_else Else = true
is_else Num = false
is_else TypeBool = false
is_else Open = false
is_else Close = false
is_else Comma = false
is_else Gets = false
is_else Dot = false
is_else (Sign o) = false
is_else Number = false
is_else BadNumber = false
is_else Name = false
is_else Other = false
is_else End = false

abbrev pub is_num : Token → Bool
is_num Use = false
is_num Kind = false
is_num Rec = false
is_num Def = false
is_num Let = false
is_num In = false
is_num If = false
is_num Then = false
is_num Else = false
is_num Num = true
is_num TypeBool = false
is_num Open = false
is_num Close = false
is_num Comma = false
is_num Gets = false
is_num Dot = false
is_num (Sign o) = false
is_num Number = false
is_num BadNumber = false
is_num Name = false
is_num Other = false
is_num End = false

abbrev pub is_bool : Token → Bool
is_bool Use = false
is_bool Kind = false
is_bool Rec = false
is_bool Def = false
is_bool Let = false
is_bool In = false
is_bool If = false
is_bool Then = false
is_bool Else = false
is_bool Num = false
is_bool TypeBool = true
is_bool Open = false
is_bool Close = false
is_bool Comma = false
is_bool Gets = false
is_bool Dot = false
is_bool (Sign o) = false
is_bool Number = false
is_bool BadNumber = false
is_bool Name = false
is_bool Other = false
is_bool End = false

abbrev pub is_open : Token → Bool
is_open Use = false
is_open Kind = false
is_open Rec = false
is_open Def = false
is_open Let = false
is_open In = false
is_open If = false
is_open Then = false
is_open Else = false
is_open Num = false
is_open TypeBool = false
is_open Open = true
is_open Close = false
is_open Comma = false
is_open Gets = false
is_open Dot = false
is_open (Sign o) = false
is_open Number = false
is_open BadNumber = false
is_open Name = false
is_open Other = false
is_open End = false

abbrev pub is_close : Token → Bool
is_close Use = false
is_close Kind = false
is_close Rec = false
is_close Def = false
is_close Let = false
is_close In = false
is_close If = false
is_close Then = false
is_close Else = false
is_close Num = false
is_close TypeBool = false
is_close Open = false
is_close Close = true
is_close Comma = false
is_close Gets = false
is_close Dot = false
is_close (Sign o) = false
is_close Number = false
is_close BadNumber = false
is_close Name = false
is_close Other = false
is_close End = false

abbrev pub is_comma : Token → Bool
is_comma Use = false
is_comma Kind = false
is_comma Rec = false
is_comma Def = false
is_comma Let = false
is_comma In = false
is_comma If = false
is_comma Then = false
is_comma Else = false
is_comma Num = false
is_comma TypeBool = false
is_comma Open = false
is_comma Close = false
is_comma Comma = true
is_comma Gets = false
is_comma Dot = false
is_comma (Sign o) = false
is_comma Number = false
is_comma BadNumber = false
is_comma Name = false
is_comma Other = false
is_comma End = false

abbrev pub is_gets : Token → Bool
is_gets Use = false
is_gets Kind = false
is_gets Rec = false
is_gets Def = false
is_gets Let = false
is_gets In = false
is_gets If = false
is_gets Then = false
is_gets Else = false
is_gets Num = false
is_gets TypeBool = false
is_gets Open = false
is_gets Close = false
is_gets Comma = false
is_gets Gets = true
is_gets Dot = false
is_gets (Sign o) = false
is_gets Number = false
is_gets BadNumber = false
is_gets Name = false
is_gets Other = false
is_gets End = false

abbrev pub is_dot : Token → Bool
is_dot Use = false
is_dot Kind = false
is_dot Rec = false
is_dot Def = false
is_dot Let = false
is_dot In = false
is_dot If = false
is_dot Then = false
is_dot Else = false
is_dot Num = false
is_dot TypeBool = false
is_dot Open = false
is_dot Close = false
is_dot Comma = false
is_dot Gets = false
is_dot Dot = true
is_dot (Sign o) = false
is_dot Number = false
is_dot BadNumber = false
is_dot Name = false
is_dot Other = false
is_dot End = false

abbrev pub is_named : Token → Bool
is_named Use = false
is_named Kind = false
is_named Rec = false
is_named Def = false
is_named Let = false
is_named In = false
is_named If = false
is_named Then = false
is_named Else = false
is_named Num = false
is_named TypeBool = false
is_named Open = false
is_named Close = false
is_named Comma = false
is_named Gets = false
is_named Dot = false
is_named (Sign o) = false
is_named Number = false
is_named BadNumber = false
is_named Name = true
is_named Other = false
is_named End = false

abbrev pub is_typed : Token → Bool
is_typed Use = false
is_typed Kind = false
is_typed Rec = false
is_typed Def = false
is_typed Let = false
is_typed In = false
is_typed If = false
is_typed Then = false
is_typed Else = false
is_typed Num = true
is_typed TypeBool = true
is_typed Open = false
is_typed Close = false
is_typed Comma = false
is_typed Gets = false
is_typed Dot = false
is_typed (Sign o) = false
is_typed Number = false
is_typed BadNumber = false
is_typed Name = true
is_typed Other = false
is_typed End = false

abbrev pub is_digit : Token → Bool
is_digit Use = false
is_digit Kind = false
is_digit Rec = false
is_digit Def = false
is_digit Let = false
is_digit In = false
is_digit If = false
is_digit Then = false
is_digit Else = false
is_digit Num = false
is_digit TypeBool = false
is_digit Open = false
is_digit Close = false
is_digit Comma = false
is_digit Gets = false
is_digit Dot = false
is_digit (Sign o) = false
is_digit Number = true
is_digit BadNumber = true
is_digit Name = false
is_digit Other = false
is_digit End = false

abbrev pub is_digits : Token → Bool
is_digits Use = false
is_digits Kind = false
is_digits Rec = false
is_digits Def = false
is_digits Let = false
is_digits In = false
is_digits If = false
is_digits Then = false
is_digits Else = false
is_digits Num = false
is_digits TypeBool = false
is_digits Open = false
is_digits Close = false
is_digits Comma = false
is_digits Gets = false
is_digits Dot = false
is_digits (Sign o) = false
is_digits Number = true
is_digits BadNumber = false
is_digits Name = false
is_digits Other = false
is_digits End = false

-- the operator that a token is at a level
abbrev pub op_in : ℕ → Token → Option ℕ
op_in j Use = none
op_in j Kind = none
op_in j Rec = none
op_in j Def = none
op_in j Let = none
op_in j In = none
op_in j If = none
op_in j Then = none
op_in j Else = none
op_in j Num = none
op_in j TypeBool = none
op_in j Open = none
op_in j Close = none
op_in j Comma = none
op_in j Gets = none
op_in j Dot = none
op_in j (Sign o) = pick (eqb j (level_of o)) (some (operator o)) none
op_in j Number = none
op_in j BadNumber = none
op_in j Name = none
op_in j Other = none
op_in j End = none

pub record Facts (w : Word) (t : Token) : Type 0 where
  pub use_is : same w k_use ≡ is_use t
  pub kind_is : same w k_kind ≡ is_kind t
  pub rec_is : same w k_rec ≡ is_rec t
  pub def_is : same w k_def ≡ is_def t
  pub let_is : same w k_let ≡ is_let t
  pub in_is : same w k_in ≡ is_in t
  pub if_is : same w k_if ≡ is_if t
  pub then_is : same w k_then ≡ is_then t
  pub else_is : same w k_else ≡ is_else t
  pub num_is : same w k_num ≡ is_num t
  pub bool_is : same w k_bool ≡ is_bool t
  pub open_is : same w t_lp ≡ is_open t
  pub close_is : same w t_rp ≡ is_close t
  pub comma_is : same w t_comma ≡ is_comma t
  pub gets_is : same w t_gets ≡ is_gets t
  pub dot_is : same w t_dot ≡ is_dot t
  pub name_is : is_name w ≡ is_named t
  pub type_is : is_type w ≡ is_typed t
  pub number_is : is_number w ≡ is_digit t
  pub digits_is : is_digit t ≡ true → digits w ≡ is_digits t
  pub op_is : (j : ℕ) → op_any j w ≡ op_in j t

-- equal words
pub same_eq : (v w : Word) → same v w ≡ true → v ≡ w
same_eq [] [] e = refl
same_eq [] (y ∷ ys) e = absurd (false≢true e)
same_eq (x ∷ xs) [] e = absurd (false≢true e)
same_eq (x ∷ xs) (y ∷ ys) e = go (eqb x y) refl (same_eq xs ys) e
  where
    go : (b : Bool) → eqb x y ≡ b → (same xs ys ≡ true → xs ≡ ys) → (b && same xs ys) ≡ true → (x ∷ xs) ≡ (y ∷ ys)
    go true p t q = let h = eqb-true x y p in let r = t q in λ i. h i ∷ r i
    go false p t q = absurd (false≢true q)

-- an operator stands at one level only
abbrev nothing : Option ℕ
nothing = none

nones : (a b c d e : Bool) → pick a nothing (pick b none (pick c none (pick d none (pick e none none)))) ≡ nothing
nones true b c d e = refl
nones false true c d e = refl
nones false false true d e = refl
nones false false false true e = refl
nones false false false false true = refl
nones false false false false false = refl

one_level : (j l : ℕ) (o : Option ℕ) (f : ℕ → Option ℕ) → ((k : ℕ) → eqb k l ≡ false → f k ≡ none) → f l ≡ o → f j ≡ pick (eqb j l) o none
one_level j l o f p q = go (eqb j l) refl
  where
    go : (b : Bool) → eqb j l ≡ b → f j ≡ pick b o none
    go true e = ap f (eqb-true j l e) ∙ q
    go false e = p j e

abbrev levels : Bool → Bool → Bool → Bool → Bool → Option ℕ → Bool → Bool → Option ℕ → Bool → Option ℕ
levels j3 j1 j2 j4 j5 c r a m t = pick j3 c (pick j1 (when1 r (some 6)) (pick j2 (when1 a (some 5)) (pick j4 m (pick j5 (when1 t (some 2)) none))))

use_facts : Facts k_use Use
use_facts = record { use_is = refl; kind_is = refl; rec_is = refl; def_is = refl; let_is = refl; in_is = refl; if_is = refl; then_is = refl; else_is = refl; num_is = refl; bool_is = refl; open_is = refl; close_is = refl; comma_is = refl; gets_is = refl; dot_is = refl; name_is = refl; type_is = refl; number_is = refl; digits_is = λ e. absurd (false≢true e); op_is = λ j. nones (eqb j 3) (eqb j 1) (eqb j 2) (eqb j 4) (eqb j 5) }

kind_facts : Facts k_kind Kind
kind_facts = record { use_is = refl; kind_is = refl; rec_is = refl; def_is = refl; let_is = refl; in_is = refl; if_is = refl; then_is = refl; else_is = refl; num_is = refl; bool_is = refl; open_is = refl; close_is = refl; comma_is = refl; gets_is = refl; dot_is = refl; name_is = refl; type_is = refl; number_is = refl; digits_is = λ e. absurd (false≢true e); op_is = λ j. nones (eqb j 3) (eqb j 1) (eqb j 2) (eqb j 4) (eqb j 5) }

rec_facts : Facts k_rec Rec
rec_facts = record { use_is = refl; kind_is = refl; rec_is = refl; def_is = refl; let_is = refl; in_is = refl; if_is = refl; then_is = refl; else_is = refl; num_is = refl; bool_is = refl; open_is = refl; close_is = refl; comma_is = refl; gets_is = refl; dot_is = refl; name_is = refl; type_is = refl; number_is = refl; digits_is = λ e. absurd (false≢true e); op_is = λ j. nones (eqb j 3) (eqb j 1) (eqb j 2) (eqb j 4) (eqb j 5) }

def_facts : Facts k_def Def
def_facts = record { use_is = refl; kind_is = refl; rec_is = refl; def_is = refl; let_is = refl; in_is = refl; if_is = refl; then_is = refl; else_is = refl; num_is = refl; bool_is = refl; open_is = refl; close_is = refl; comma_is = refl; gets_is = refl; dot_is = refl; name_is = refl; type_is = refl; number_is = refl; digits_is = λ e. absurd (false≢true e); op_is = λ j. nones (eqb j 3) (eqb j 1) (eqb j 2) (eqb j 4) (eqb j 5) }

let_facts : Facts k_let Let
let_facts = record { use_is = refl; kind_is = refl; rec_is = refl; def_is = refl; let_is = refl; in_is = refl; if_is = refl; then_is = refl; else_is = refl; num_is = refl; bool_is = refl; open_is = refl; close_is = refl; comma_is = refl; gets_is = refl; dot_is = refl; name_is = refl; type_is = refl; number_is = refl; digits_is = λ e. absurd (false≢true e); op_is = λ j. nones (eqb j 3) (eqb j 1) (eqb j 2) (eqb j 4) (eqb j 5) }

in_facts : Facts k_in In
in_facts = record { use_is = refl; kind_is = refl; rec_is = refl; def_is = refl; let_is = refl; in_is = refl; if_is = refl; then_is = refl; else_is = refl; num_is = refl; bool_is = refl; open_is = refl; close_is = refl; comma_is = refl; gets_is = refl; dot_is = refl; name_is = refl; type_is = refl; number_is = refl; digits_is = λ e. absurd (false≢true e); op_is = λ j. nones (eqb j 3) (eqb j 1) (eqb j 2) (eqb j 4) (eqb j 5) }

if_facts : Facts k_if If
if_facts = record { use_is = refl; kind_is = refl; rec_is = refl; def_is = refl; let_is = refl; in_is = refl; if_is = refl; then_is = refl; else_is = refl; num_is = refl; bool_is = refl; open_is = refl; close_is = refl; comma_is = refl; gets_is = refl; dot_is = refl; name_is = refl; type_is = refl; number_is = refl; digits_is = λ e. absurd (false≢true e); op_is = λ j. nones (eqb j 3) (eqb j 1) (eqb j 2) (eqb j 4) (eqb j 5) }

then_facts : Facts k_then Then
then_facts = record { use_is = refl; kind_is = refl; rec_is = refl; def_is = refl; let_is = refl; in_is = refl; if_is = refl; then_is = refl; else_is = refl; num_is = refl; bool_is = refl; open_is = refl; close_is = refl; comma_is = refl; gets_is = refl; dot_is = refl; name_is = refl; type_is = refl; number_is = refl; digits_is = λ e. absurd (false≢true e); op_is = λ j. nones (eqb j 3) (eqb j 1) (eqb j 2) (eqb j 4) (eqb j 5) }

else_facts : Facts k_else Else
else_facts = record { use_is = refl; kind_is = refl; rec_is = refl; def_is = refl; let_is = refl; in_is = refl; if_is = refl; then_is = refl; else_is = refl; num_is = refl; bool_is = refl; open_is = refl; close_is = refl; comma_is = refl; gets_is = refl; dot_is = refl; name_is = refl; type_is = refl; number_is = refl; digits_is = λ e. absurd (false≢true e); op_is = λ j. nones (eqb j 3) (eqb j 1) (eqb j 2) (eqb j 4) (eqb j 5) }

and_facts : Facts k_and (Sign And)
and_facts = record { use_is = refl; kind_is = refl; rec_is = refl; def_is = refl; let_is = refl; in_is = refl; if_is = refl; then_is = refl; else_is = refl; num_is = refl; bool_is = refl; open_is = refl; close_is = refl; comma_is = refl; gets_is = refl; dot_is = refl; name_is = refl; type_is = refl; number_is = refl; digits_is = λ e. absurd (false≢true e); op_is = λ j. one_level j 2 (some 5) (λ j. op_any j k_and) (λ k e. ap (λ b. pick (eqb k 3) none (pick (eqb k 1) none (pick b (some 5) (pick (eqb k 4) none (pick (eqb k 5) none none))))) e ∙ nones (eqb k 3) (eqb k 1) false (eqb k 4) (eqb k 5)) refl }

or_facts : Facts k_or (Sign Or)
or_facts = record { use_is = refl; kind_is = refl; rec_is = refl; def_is = refl; let_is = refl; in_is = refl; if_is = refl; then_is = refl; else_is = refl; num_is = refl; bool_is = refl; open_is = refl; close_is = refl; comma_is = refl; gets_is = refl; dot_is = refl; name_is = refl; type_is = refl; number_is = refl; digits_is = λ e. absurd (false≢true e); op_is = λ j. one_level j 1 (some 6) (λ j. op_any j k_or) (λ k e. ap (λ b. pick (eqb k 3) none (pick b (some 6) (pick (eqb k 2) none (pick (eqb k 4) none (pick (eqb k 5) none none))))) e ∙ nones (eqb k 3) false (eqb k 2) (eqb k 4) (eqb k 5)) refl }

num_facts : Facts k_num Num
num_facts = record { use_is = refl; kind_is = refl; rec_is = refl; def_is = refl; let_is = refl; in_is = refl; if_is = refl; then_is = refl; else_is = refl; num_is = refl; bool_is = refl; open_is = refl; close_is = refl; comma_is = refl; gets_is = refl; dot_is = refl; name_is = refl; type_is = refl; number_is = refl; digits_is = λ e. absurd (false≢true e); op_is = λ j. nones (eqb j 3) (eqb j 1) (eqb j 2) (eqb j 4) (eqb j 5) }

bool_facts : Facts k_bool TypeBool
bool_facts = record { use_is = refl; kind_is = refl; rec_is = refl; def_is = refl; let_is = refl; in_is = refl; if_is = refl; then_is = refl; else_is = refl; num_is = refl; bool_is = refl; open_is = refl; close_is = refl; comma_is = refl; gets_is = refl; dot_is = refl; name_is = refl; type_is = refl; number_is = refl; digits_is = λ e. absurd (false≢true e); op_is = λ j. nones (eqb j 3) (eqb j 1) (eqb j 2) (eqb j 4) (eqb j 5) }

open_facts : Facts t_lp Open
open_facts = record { use_is = refl; kind_is = refl; rec_is = refl; def_is = refl; let_is = refl; in_is = refl; if_is = refl; then_is = refl; else_is = refl; num_is = refl; bool_is = refl; open_is = refl; close_is = refl; comma_is = refl; gets_is = refl; dot_is = refl; name_is = refl; type_is = refl; number_is = refl; digits_is = λ e. absurd (false≢true e); op_is = λ j. nones (eqb j 3) (eqb j 1) (eqb j 2) (eqb j 4) (eqb j 5) }

close_facts : Facts t_rp Close
close_facts = record { use_is = refl; kind_is = refl; rec_is = refl; def_is = refl; let_is = refl; in_is = refl; if_is = refl; then_is = refl; else_is = refl; num_is = refl; bool_is = refl; open_is = refl; close_is = refl; comma_is = refl; gets_is = refl; dot_is = refl; name_is = refl; type_is = refl; number_is = refl; digits_is = λ e. absurd (false≢true e); op_is = λ j. nones (eqb j 3) (eqb j 1) (eqb j 2) (eqb j 4) (eqb j 5) }

comma_facts : Facts t_comma Comma
comma_facts = record { use_is = refl; kind_is = refl; rec_is = refl; def_is = refl; let_is = refl; in_is = refl; if_is = refl; then_is = refl; else_is = refl; num_is = refl; bool_is = refl; open_is = refl; close_is = refl; comma_is = refl; gets_is = refl; dot_is = refl; name_is = refl; type_is = refl; number_is = refl; digits_is = λ e. absurd (false≢true e); op_is = λ j. nones (eqb j 3) (eqb j 1) (eqb j 2) (eqb j 4) (eqb j 5) }

gets_facts : Facts t_gets Gets
gets_facts = record { use_is = refl; kind_is = refl; rec_is = refl; def_is = refl; let_is = refl; in_is = refl; if_is = refl; then_is = refl; else_is = refl; num_is = refl; bool_is = refl; open_is = refl; close_is = refl; comma_is = refl; gets_is = refl; dot_is = refl; name_is = refl; type_is = refl; number_is = refl; digits_is = λ e. absurd (false≢true e); op_is = λ j. nones (eqb j 3) (eqb j 1) (eqb j 2) (eqb j 4) (eqb j 5) }

dot_facts : Facts t_dot Dot
dot_facts = record { use_is = refl; kind_is = refl; rec_is = refl; def_is = refl; let_is = refl; in_is = refl; if_is = refl; then_is = refl; else_is = refl; num_is = refl; bool_is = refl; open_is = refl; close_is = refl; comma_is = refl; gets_is = refl; dot_is = refl; name_is = refl; type_is = refl; number_is = refl; digits_is = λ e. absurd (false≢true e); op_is = λ j. nones (eqb j 3) (eqb j 1) (eqb j 2) (eqb j 4) (eqb j 5) }

is_facts : Facts t_is (Sign Equal)
is_facts = record { use_is = refl; kind_is = refl; rec_is = refl; def_is = refl; let_is = refl; in_is = refl; if_is = refl; then_is = refl; else_is = refl; num_is = refl; bool_is = refl; open_is = refl; close_is = refl; comma_is = refl; gets_is = refl; dot_is = refl; name_is = refl; type_is = refl; number_is = refl; digits_is = λ e. absurd (false≢true e); op_is = λ j. one_level j 3 (some 3) (λ j. op_any j t_is) (λ k e. ap (λ b. pick b (some 3) (pick (eqb k 1) none (pick (eqb k 2) none (pick (eqb k 4) none (pick (eqb k 5) none none))))) e ∙ nones false (eqb k 1) (eqb k 2) (eqb k 4) (eqb k 5)) refl }

less_facts : Facts t_less (Sign Less)
less_facts = record { use_is = refl; kind_is = refl; rec_is = refl; def_is = refl; let_is = refl; in_is = refl; if_is = refl; then_is = refl; else_is = refl; num_is = refl; bool_is = refl; open_is = refl; close_is = refl; comma_is = refl; gets_is = refl; dot_is = refl; name_is = refl; type_is = refl; number_is = refl; digits_is = λ e. absurd (false≢true e); op_is = λ j. one_level j 3 (some 4) (λ j. op_any j t_less) (λ k e. ap (λ b. pick b (some 4) (pick (eqb k 1) none (pick (eqb k 2) none (pick (eqb k 4) none (pick (eqb k 5) none none))))) e ∙ nones false (eqb k 1) (eqb k 2) (eqb k 4) (eqb k 5)) refl }

plus_facts : Facts t_plus (Sign Plus)
plus_facts = record { use_is = refl; kind_is = refl; rec_is = refl; def_is = refl; let_is = refl; in_is = refl; if_is = refl; then_is = refl; else_is = refl; num_is = refl; bool_is = refl; open_is = refl; close_is = refl; comma_is = refl; gets_is = refl; dot_is = refl; name_is = refl; type_is = refl; number_is = refl; digits_is = λ e. absurd (false≢true e); op_is = λ j. one_level j 4 (some 0) (λ j. op_any j t_plus) (λ k e. ap (λ b. pick (eqb k 3) none (pick (eqb k 1) none (pick (eqb k 2) none (pick b (some 0) (pick (eqb k 5) none none))))) e ∙ nones (eqb k 3) (eqb k 1) (eqb k 2) false (eqb k 5)) refl }

minus_facts : Facts t_minus (Sign Minus)
minus_facts = record { use_is = refl; kind_is = refl; rec_is = refl; def_is = refl; let_is = refl; in_is = refl; if_is = refl; then_is = refl; else_is = refl; num_is = refl; bool_is = refl; open_is = refl; close_is = refl; comma_is = refl; gets_is = refl; dot_is = refl; name_is = refl; type_is = refl; number_is = refl; digits_is = λ e. absurd (false≢true e); op_is = λ j. one_level j 4 (some 1) (λ j. op_any j t_minus) (λ k e. ap (λ b. pick (eqb k 3) none (pick (eqb k 1) none (pick (eqb k 2) none (pick b (some 1) (pick (eqb k 5) none none))))) e ∙ nones (eqb k 3) (eqb k 1) (eqb k 2) false (eqb k 5)) refl }

times_facts : Facts t_times (Sign Times)
times_facts = record { use_is = refl; kind_is = refl; rec_is = refl; def_is = refl; let_is = refl; in_is = refl; if_is = refl; then_is = refl; else_is = refl; num_is = refl; bool_is = refl; open_is = refl; close_is = refl; comma_is = refl; gets_is = refl; dot_is = refl; name_is = refl; type_is = refl; number_is = refl; digits_is = λ e. absurd (false≢true e); op_is = λ j. one_level j 5 (some 2) (λ j. op_any j t_times) (λ k e. ap (λ b. pick (eqb k 3) none (pick (eqb k 1) none (pick (eqb k 2) none (pick (eqb k 4) none (pick b (some 2) none))))) e ∙ nones (eqb k 3) (eqb k 1) (eqb k 2) (eqb k 4) false) refl }

end_facts : Facts [] End
end_facts = record { use_is = refl; kind_is = refl; rec_is = refl; def_is = refl; let_is = refl; in_is = refl; if_is = refl; then_is = refl; else_is = refl; num_is = refl; bool_is = refl; open_is = refl; close_is = refl; comma_is = refl; gets_is = refl; dot_is = refl; name_is = refl; type_is = refl; number_is = refl; digits_is = λ e. absurd (false≢true e); op_is = λ j. nones (eqb j 3) (eqb j 1) (eqb j 2) (eqb j 4) (eqb j 5) }

none_left : (a : Bool) → (a && false) ≡ false
none_left true = refl
none_left false = refl

-- a word that is none of the fixed ones
module _ (w : Word) (h_use : same w k_use ≡ false) (h_kind : same w k_kind ≡ false) (h_rec : same w k_rec ≡ false) (h_def : same w k_def ≡ false) (h_let : same w k_let ≡ false) (h_in : same w k_in ≡ false) (h_if : same w k_if ≡ false) (h_then : same w k_then ≡ false) (h_else : same w k_else ≡ false) (h_and : same w k_and ≡ false) (h_or : same w k_or ≡ false) (h_num : same w k_num ≡ false) (h_bool : same w k_bool ≡ false) (h_open : same w t_lp ≡ false) (h_close : same w t_rp ≡ false) (h_comma : same w t_comma ≡ false) (h_gets : same w t_gets ≡ false) (h_dot : same w t_dot ≡ false) (h_is : same w t_is ≡ false) (h_less : same w t_less ≡ false) (h_plus : same w t_plus ≡ false) (h_minus : same w t_minus ≡ false) (h_times : same w t_times ≡ false) where
  not_kept : among w kept ≡ false
  not_kept = λ i. h_use i || (h_kind i || (h_rec i || (h_def i || (h_let i || (h_in i || (h_if i || (h_then i || (h_else i || (h_and i || (h_or i || (h_num i || (h_bool i || (false)))))))))))))

  no_op : (j : ℕ) → op_any j w ≡ none
  no_op j = (λ i. levels (eqb j 3) (eqb j 1) (eqb j 2) (eqb j 4) (eqb j 5) (or_else (when1 (h_is i) (some 3)) (when1 (h_less i) (some 4))) (h_or i) (h_and i) (or_else (when1 (h_plus i) (some 0)) (when1 (h_minus i) (some 1))) (h_times i)) ∙ nones (eqb j 3) (eqb j 1) (eqb j 2) (eqb j 4) (eqb j 5)

  plain_name : (a b : Bool) → letter (first w) ≡ a → is_number w ≡ b → is_name w ≡ (a && not b)
  plain_name a b p q = (λ i. p i && (not (q i) && not (not_kept i))) ∙ and_true a (not b)
    where
      and_true : (a b : Bool) → (a && (b && true)) ≡ (a && b)
      and_true true true = refl
      and_true true false = refl
      and_true false b = refl

  plain_type : (c : Bool) → is_name w ≡ c → is_type w ≡ c
  plain_type c p = λ i. h_num i || (h_bool i || p i)

  number_facts : is_number w ≡ true → digits w ≡ true → Facts w Number
  number_facts p q = record { use_is = h_use; kind_is = h_kind; rec_is = h_rec; def_is = h_def; let_is = h_let; in_is = h_in; if_is = h_if; then_is = h_then; else_is = h_else; num_is = h_num; bool_is = h_bool; open_is = h_open; close_is = h_close; comma_is = h_comma; gets_is = h_gets; dot_is = h_dot; name_is = nam; type_is = plain_type false nam; number_is = p; digits_is = λ e. q; op_is = no_op }
    where
      nam : is_name w ≡ false
      nam = plain_name (letter (first w)) true refl p ∙ none_left (letter (first w))

  bad_facts : is_number w ≡ true → digits w ≡ false → Facts w BadNumber
  bad_facts p q = record { use_is = h_use; kind_is = h_kind; rec_is = h_rec; def_is = h_def; let_is = h_let; in_is = h_in; if_is = h_if; then_is = h_then; else_is = h_else; num_is = h_num; bool_is = h_bool; open_is = h_open; close_is = h_close; comma_is = h_comma; gets_is = h_gets; dot_is = h_dot; name_is = nam; type_is = plain_type false nam; number_is = p; digits_is = λ e. q; op_is = no_op }
    where
      nam : is_name w ≡ false
      nam = plain_name (letter (first w)) true refl p ∙ none_left (letter (first w))

  name_facts : is_number w ≡ false → letter (first w) ≡ true → Facts w Name
  name_facts p q = record { use_is = h_use; kind_is = h_kind; rec_is = h_rec; def_is = h_def; let_is = h_let; in_is = h_in; if_is = h_if; then_is = h_then; else_is = h_else; num_is = h_num; bool_is = h_bool; open_is = h_open; close_is = h_close; comma_is = h_comma; gets_is = h_gets; dot_is = h_dot; name_is = plain_name true false q p; type_is = plain_type true (plain_name true false q p); number_is = p; digits_is = λ e. absurd (false≢true e); op_is = no_op }

  other_facts : is_number w ≡ false → letter (first w) ≡ false → Facts w Other
  other_facts p q = record { use_is = h_use; kind_is = h_kind; rec_is = h_rec; def_is = h_def; let_is = h_let; in_is = h_in; if_is = h_if; then_is = h_then; else_is = h_else; num_is = h_num; bool_is = h_bool; open_is = h_open; close_is = h_close; comma_is = h_comma; gets_is = h_gets; dot_is = h_dot; name_is = plain_name false false q p; type_is = plain_type false (plain_name false false q p); number_is = p; digits_is = λ e. absurd (false≢true e); op_is = no_op }

by_pick : (P : Token → Type 0) (b : Bool) (x y : Token) → (b ≡ true → P x) → (b ≡ false → P y) → P (pick b x y)
by_pick P true x y p q = p refl
by_pick P false x y p q = q refl

pub facts : (w : Word) → Facts w (token_of w)
facts [] = end_facts
facts (c ∷ cs) =
    by_pick (Facts (c ∷ cs)) (same (c ∷ cs) k_use) _ _ (λ e. subst (λ v. Facts v Use) (sym (same_eq (c ∷ cs) k_use e)) use_facts) (λ h_use.
    by_pick (Facts (c ∷ cs)) (same (c ∷ cs) k_kind) _ _ (λ e. subst (λ v. Facts v Kind) (sym (same_eq (c ∷ cs) k_kind e)) kind_facts) (λ h_kind.
    by_pick (Facts (c ∷ cs)) (same (c ∷ cs) k_rec) _ _ (λ e. subst (λ v. Facts v Rec) (sym (same_eq (c ∷ cs) k_rec e)) rec_facts) (λ h_rec.
    by_pick (Facts (c ∷ cs)) (same (c ∷ cs) k_def) _ _ (λ e. subst (λ v. Facts v Def) (sym (same_eq (c ∷ cs) k_def e)) def_facts) (λ h_def.
    by_pick (Facts (c ∷ cs)) (same (c ∷ cs) k_let) _ _ (λ e. subst (λ v. Facts v Let) (sym (same_eq (c ∷ cs) k_let e)) let_facts) (λ h_let.
    by_pick (Facts (c ∷ cs)) (same (c ∷ cs) k_in) _ _ (λ e. subst (λ v. Facts v In) (sym (same_eq (c ∷ cs) k_in e)) in_facts) (λ h_in.
    by_pick (Facts (c ∷ cs)) (same (c ∷ cs) k_if) _ _ (λ e. subst (λ v. Facts v If) (sym (same_eq (c ∷ cs) k_if e)) if_facts) (λ h_if.
    by_pick (Facts (c ∷ cs)) (same (c ∷ cs) k_then) _ _ (λ e. subst (λ v. Facts v Then) (sym (same_eq (c ∷ cs) k_then e)) then_facts) (λ h_then.
    by_pick (Facts (c ∷ cs)) (same (c ∷ cs) k_else) _ _ (λ e. subst (λ v. Facts v Else) (sym (same_eq (c ∷ cs) k_else e)) else_facts) (λ h_else.
    by_pick (Facts (c ∷ cs)) (same (c ∷ cs) k_and) _ _ (λ e. subst (λ v. Facts v (Sign And)) (sym (same_eq (c ∷ cs) k_and e)) and_facts) (λ h_and.
    by_pick (Facts (c ∷ cs)) (same (c ∷ cs) k_or) _ _ (λ e. subst (λ v. Facts v (Sign Or)) (sym (same_eq (c ∷ cs) k_or e)) or_facts) (λ h_or.
    by_pick (Facts (c ∷ cs)) (same (c ∷ cs) k_num) _ _ (λ e. subst (λ v. Facts v Num) (sym (same_eq (c ∷ cs) k_num e)) num_facts) (λ h_num.
    by_pick (Facts (c ∷ cs)) (same (c ∷ cs) k_bool) _ _ (λ e. subst (λ v. Facts v TypeBool) (sym (same_eq (c ∷ cs) k_bool e)) bool_facts) (λ h_bool.
    by_pick (Facts (c ∷ cs)) (same (c ∷ cs) t_lp) _ _ (λ e. subst (λ v. Facts v Open) (sym (same_eq (c ∷ cs) t_lp e)) open_facts) (λ h_open.
    by_pick (Facts (c ∷ cs)) (same (c ∷ cs) t_rp) _ _ (λ e. subst (λ v. Facts v Close) (sym (same_eq (c ∷ cs) t_rp e)) close_facts) (λ h_close.
    by_pick (Facts (c ∷ cs)) (same (c ∷ cs) t_comma) _ _ (λ e. subst (λ v. Facts v Comma) (sym (same_eq (c ∷ cs) t_comma e)) comma_facts) (λ h_comma.
    by_pick (Facts (c ∷ cs)) (same (c ∷ cs) t_gets) _ _ (λ e. subst (λ v. Facts v Gets) (sym (same_eq (c ∷ cs) t_gets e)) gets_facts) (λ h_gets.
    by_pick (Facts (c ∷ cs)) (same (c ∷ cs) t_dot) _ _ (λ e. subst (λ v. Facts v Dot) (sym (same_eq (c ∷ cs) t_dot e)) dot_facts) (λ h_dot.
    by_pick (Facts (c ∷ cs)) (same (c ∷ cs) t_is) _ _ (λ e. subst (λ v. Facts v (Sign Equal)) (sym (same_eq (c ∷ cs) t_is e)) is_facts) (λ h_is.
    by_pick (Facts (c ∷ cs)) (same (c ∷ cs) t_less) _ _ (λ e. subst (λ v. Facts v (Sign Less)) (sym (same_eq (c ∷ cs) t_less e)) less_facts) (λ h_less.
    by_pick (Facts (c ∷ cs)) (same (c ∷ cs) t_plus) _ _ (λ e. subst (λ v. Facts v (Sign Plus)) (sym (same_eq (c ∷ cs) t_plus e)) plus_facts) (λ h_plus.
    by_pick (Facts (c ∷ cs)) (same (c ∷ cs) t_minus) _ _ (λ e. subst (λ v. Facts v (Sign Minus)) (sym (same_eq (c ∷ cs) t_minus e)) minus_facts) (λ h_minus.
    by_pick (Facts (c ∷ cs)) (same (c ∷ cs) t_times) _ _ (λ e. subst (λ v. Facts v (Sign Times)) (sym (same_eq (c ∷ cs) t_times e)) times_facts) (λ h_times.
    by_pick (Facts (c ∷ cs)) (is_number (c ∷ cs)) _ _ (λ p. by_pick (Facts (c ∷ cs)) (digits (c ∷ cs)) _ _ (λ q. number_facts (c ∷ cs) h_use h_kind h_rec h_def h_let h_in h_if h_then h_else h_and h_or h_num h_bool h_open h_close h_comma h_gets h_dot h_is h_less h_plus h_minus h_times p q) (λ q. bad_facts (c ∷ cs) h_use h_kind h_rec h_def h_let h_in h_if h_then h_else h_and h_or h_num h_bool h_open h_close h_comma h_gets h_dot h_is h_less h_plus h_minus h_times p q))
    (λ p. by_pick (Facts (c ∷ cs)) (letter c) _ _ (λ q. name_facts (c ∷ cs) h_use h_kind h_rec h_def h_let h_in h_if h_then h_else h_and h_or h_num h_bool h_open h_close h_comma h_gets h_dot h_is h_less h_plus h_minus h_times p q) (λ q. other_facts (c ∷ cs) h_use h_kind h_rec h_def h_let h_in h_if h_then h_else h_and h_or h_num h_bool h_open h_close h_comma h_gets h_dot h_is h_less h_plus h_minus h_times p q)))))))))))))))))))))))))

-- every byte is a digit
pub digits_all : (w : List ℕ) → list_all digit w ≡ digits w
digits_all [] = refl
digits_all (c ∷ cs) = ap (λ b. digit c && b) (digits_all cs)
