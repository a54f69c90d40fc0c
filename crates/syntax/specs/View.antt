-- What the typed view of a line says of the item that the line is.
use Rattle.std.specs.Prelude.{◌≡◌, ℕ, suc, ◌+◌, ◌*◌, ◌<◌, ◌≤◌, Bool, true, false, List, [], ◌∷◌, length, Some, None, Option, ◌≢◌}
use Rattle.std.specs.List.{slice_get}
use Rattle.base.specs.Base.{pick}
use Rattle.lexer.specs.Tokens.{Tok, tok}
use Rattle.lexer.specs.declared.reader.Piece.{Piece}
use Rattle.grammar.specs.Grammar.{E, Field, Item as Meant, nothing, i_use, i_kind, i_rec, i_def, i_bad}
use Rattle.grammar.specs.Code.{Op as Flat, onto, consts_code, slots_onto, o_num, o_name, o_call, o_arg, o_end, o_field, o_op, o_cond, o_if, o_bind, o_let, o_par, o_use, o_new, o_const, o_slot, o_result, o_body, o_bad}
use Rattle.parser.specs.Rows.{ops, op_is, span_of}
use Rattle.parser.specs.declared.code.Span.{Span}
use Rattle.parser.specs.declared.code.Op.{Op}
use Rattle.syntax.specs.declared.view.Item.{Item}
use Rattle.syntax.specs.declared.view.Item.TheVariants.{Nothing, Use, Kind, Record, Def, Bad}

-- a piece of the code as a piece of the definition
abbrev pub piece_of : Piece → Tok
piece_of p = tok p.text.now p.from p.to

-- operation i of these words
abbrev pub GetSays : List ℕ → List ℕ → ℕ → Option Op → Type 0
GetSays line code i (Some op) = (5 * i + 5 ≤ length code) × (slice_get (ops line code) i ≡ Some (op_is line op))
GetSays line code i None = length code < 5 * i + 5

-- a field or a parameter
abbrev pub is_slot : Flat → Bool
is_slot (o_num a) = false
is_slot (o_name a) = false
is_slot (o_call a b) = false
is_slot o_arg = false
is_slot (o_end a) = false
is_slot (o_field a) = false
is_slot (o_op a) = false
is_slot o_cond = false
is_slot (o_if a) = false
is_slot (o_bind a) = false
is_slot (o_let a) = false
is_slot (o_par a b) = false
is_slot (o_use a) = false
is_slot (o_new a) = false
is_slot (o_const a) = false
is_slot (o_slot a) = true
is_slot (o_result a) = false
is_slot o_body = false
is_slot (o_bad a b) = false

abbrev pub slot_in : Option Flat → Bool
slot_in None = false
slot_in (Some o) = is_slot o

-- how many of these lead
abbrev pub lead : List Flat → ℕ
lead [] = 0
lead (o ∷ os) = pick (is_slot o) (suc (lead os)) 0

-- operation i is a result's type, or isn't
abbrev pub ResultSays : List ℕ → List ℕ → ℕ → Option Span → Type 0
ResultSays line code i (Some s) = (5 * i + 5 ≤ length code) × (slice_get (ops line code) i ≡ Some (o_result (span_of line s)))
ResultSays line code i None = (t : Tok) → slice_get (ops line code) i ≢ Some (o_result t)

-- the view of an item i of a line
abbrev pub ViewSays : List ℕ → Meant → Item → Type 0
ViewSays line i Nothing = i ≡ nothing
ViewSays line i (Use p) = i ≡ i_use (piece_of p)
ViewSays line i (Kind p rest) = (cs : List Tok) × (i ≡ i_kind (piece_of p) cs) × (ops line rest.code.now ≡ consts_code cs) × (rest.line.now ≡ line)
ViewSays line i (Record p rest) = (fs : List Field) × (i ≡ i_rec (piece_of p) fs) × (ops line rest.code.now ≡ slots_onto fs []) × (rest.line.now ≡ line)
ViewSays line i (Def name params result body) = (ps : List Field) × (e : E) × (i ≡ i_def (piece_of name) ps (piece_of result) e) × (ops line params.code.now ≡ slots_onto ps []) × (params.line.now ≡ line) × (ops line body.code.now ≡ onto e (o_body ∷ [])) × (body.line.now ≡ line)
ViewSays line i (Bad s) = i ≡ i_bad s.from s.to
