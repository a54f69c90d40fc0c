-- A line read straight into flat code, and what the functions that do so promise. Only contracts of private functions cite the
-- readings here; LineSays, the promise of the whole, speaks of `item_of` and `item_code` alone.
use Rattle.std.specs.Prelude.{◌≡◌, ℕ, suc, ◌+◌, ◌*◌, ◌<◌, ◌≤◌, List, [], ◌∷◌, ◌++◌, length, take, Ok, Err, Result}
use Rattle.base.specs.Base.{pick, same}
use Rattle.lexer.specs.Tokens.{Tok, left, next}
use Rattle.lexer.specs.Words.{k_use, k_kind, k_rec, k_def, t_rp}
use Rattle.grammar.specs.Grammar.{Item, Got, it, bad, with1, a_word, expr, names, field_list}
use Rattle.grammar.specs.Code.{Op as Flat, o_use, o_new, o_const, o_slot, o_result, o_body, code, consts_code, slots_onto, item_code}
use Rattle.parser.specs.Rows.{ops_of, op_is, span_of}
use Rattle.parser.specs.declared.code.Span.{Span}
use Rattle.syntax.specs.Wanted.{wants}
use Rattle.syntax.specs.declared.wanted.Wanted.{Wanted}
use Rattle.syntax.specs.declared.wanted.Wanted.TheVariants.{Name as AName, TypeWord as AType, Gets as AGets, Open as AOpen, Close as AClose}
use Rattle.syntax.specs.declared.lists.Listed.{Listed}
use Rattle.syntax.specs.declared.lists.Listed.TheVariants.{Names, Fields}
use Rattle.parser.specs.declared.code.Op.{Op}
use Rattle.parser.specs.declared.parse.Wrong.{Wrong}
use Rattle.syntax.specs.declared.reading.Reading.{Reading}

abbrev pub word : Wanted → List Tok → Got Tok
word k ts = a_word (wants k) ts

-- one thing of a list: a constant; a field or parameter with its type
abbrev pub entry : Listed → List Tok → Got Flat
entry Names ts = with1 (word AName ts) (λ x us. it (o_const x) us)
entry Fields ts = with1 (word AName ts) (λ x us. with1 (word AType us) (λ t vs. it (o_slot (record { name = x; ty = t })) vs))

abbrev pub listed : Listed → List Tok → Got (List Flat)
listed Names ts = with1 (names (suc (length ts)) ts) (λ xs us. it (consts_code xs) us)
listed Fields ts = with1 (field_list (suc (length ts)) ts) (λ fs us. it (slots_onto fs []) us)

-- operations in front of what is read; and what is read behind something else
abbrev pub after : List Flat → Got (List Flat) → Got (List Flat)
after os (it ps us) = it (os ++ ps) us
after os (bad us) = bad us

abbrev pub then : Got (List Flat) → (List Tok → Got (List Flat)) → Got (List Flat)
then g f = with1 g (λ os us. after os (f us))

-- nothing may be left
abbrev pub ends : List Flat → List Tok → Got (List Flat)
ends os [] = it os []
ends os (t ∷ ts) = bad (t ∷ ts)

abbrev pub head : Listed → Tok → Flat
head Names x = o_const x
head Fields x = o_new x

abbrev pub use_ops : List Tok → Got (List Flat)
use_ops ts = with1 (word AName ts) (λ x us. ends (o_use x ∷ []) us)

-- a name, and what begins the list behind it
abbrev pub start_ops : Listed → Wanted → List Tok → Got (List Flat)
start_ops k w ts = with1 (word AName ts) (λ x us. with1 (word w us) (λ g vs. it (head k x ∷ []) vs))

-- a kind or a record
abbrev pub block_ops : Listed → List Tok → Got (List Flat)
block_ops k ts = then (start_ops k AGets ts) (λ us. then (listed k us) (ends []))

-- of a def its parameters, its result's type, its expression
abbrev pub params_ops : List Tok → Got (List Flat)
params_ops ts = pick (same (next ts) t_rp) (it [] ts) (listed Fields ts)

abbrev pub result_ops : List Tok → Got (List Flat)
result_ops ts = with1 (word AClose ts) (λ r us. with1 (word AType us) (λ t vs. with1 (word AGets vs) (λ g xs. it (o_result t ∷ []) xs)))

abbrev pub body_ops : List Tok → Got (List Flat)
body_ops ts = with1 (expr (10 * length ts + 10) ts) (λ e us. it (code e) us)

abbrev pub def_ops : List Tok → Got (List Flat)
def_ops ts = then (start_ops Fields AOpen ts) (λ us. then (params_ops us) (λ vs. then (result_ops vs) (λ xs. then (body_ops xs) (ends (o_body ∷ [])))))

abbrev pub item_ops : Tok → List Tok → Got (List Flat)
item_ops t ts = pick (same t.w k_use) (use_ops ts) (pick (same t.w k_kind) (block_ops Names ts) (pick (same t.w k_rec) (block_ops Fields ts) (pick (same t.w k_def) (def_ops ts) (bad (t ∷ ts)))))

abbrev pub coded : Got Item → Got (List Flat)
coded (it i us) = it (item_code i) us
coded (bad us) = bad us

-- the line that a reading is of
abbrev pub line_of : Reading → List ℕ → List ℕ
line_of r ws = take r.len ws

-- where the line ends and the code begins stays as it is
pub record Beside (r q : Reading) : Type 0 where
  pub len_is : q.len ≡ r.len
  pub base_is : q.base ≡ r.base

-- there is a word for each operation that the line may become, and more of them; the line is shorter than most
pub record Ready (most more : ℕ) (r : Reading) (ws : List ℕ) : Type 0 where
  pub small : r.len < most
  pub line_in : r.len ≤ r.base
  pub room : r.base + 5 * r.len + more ≤ length ws
  pub few : r.count < r.at
  pub within : r.at ≤ r.len

-- there is room for one operation more
pub record Spare (r : Reading) (ws : List ℕ) : Type 0 where
  pub line_in : r.len ≤ r.base
  pub spare : r.base + 5 * r.count + 5 ≤ length ws
  pub within : r.at ≤ r.len

-- x was taken from a place on, and the words stay
pub record Took {A : Type 0} (r : Reading) (ws : List ℕ) (F : List Tok → Got A) (x : A) (q : Reading) : Type 0 where
  pub reads : F (left (line_of r ws) r.at) ≡ it x (left (line_of r ws) q.at)
  pub beside : Beside r q
  pub count_is : q.count ≡ r.count
  pub onward : r.at < q.at
  pub within : q.at ≤ r.len

-- or it isn't there
abbrev pub Lost : {A : Type 0} → Reading → List ℕ → (List Tok → Got A) → Wrong → Type 0
Lost r ws F w = F (left (line_of r ws) r.at) ≡ bad (left (line_of r ws) w.at)

abbrev pub TakesSays : Reading → List ℕ → (List Tok → Got Tok) → Result (Span × Reading) Wrong → Type 0
TakesSays r ws F (Ok p) = Took r ws F (span_of (line_of r ws) p.0) p.1
TakesSays r ws F (Err w) = Lost r ws F w

abbrev pub EntrySays : Reading → List ℕ → (List Tok → Got Flat) → Result (Op × Reading) Wrong → Type 0
EntrySays r ws F (Ok p) = Took r ws F (op_is (line_of r ws) p.0) p.1
EntrySays r ws F (Err w) = Lost r ws F w

-- an operation, by the line, came to stand behind those that were there
pub record Emits (r : Reading) (ws vs : List ℕ) (o : List ℕ → Flat) (q : Reading) : Type 0 where
  pub within : r.at ≤ r.len
  pub front : take r.base vs ≡ take r.base ws
  pub beside : Beside r q
  pub at_is : q.at ≡ r.at
  pub count_is : q.count ≡ r.count + 1
  pub adds : ops_of (line_of r ws) r.base (r.count + 1) vs ≡ ops_of (line_of r ws) r.base r.count ws ++ (o (line_of r ws) ∷ [])

-- operations stood in the words ws; now more stand in vs, and these are what g reads
pub record Grew (line : List ℕ) (r : Reading) (ws vs : List ℕ) (g : Got (List Flat)) (q : Reading) : Type 0 where
  pub done : List Flat
  pub reads : g ≡ it done (left line q.at)
  pub stands : ops_of line r.base q.count vs ≡ ops_of line r.base r.count ws ++ done
  pub beside : Beside r q
  pub within : q.at ≤ r.len

abbrev pub Says : List ℕ → Reading → List ℕ → List ℕ → Got (List Flat) → Result Reading Wrong → Type 0
Says line r ws vs g (Ok q) = Grew line r ws vs g q
Says line r ws vs g (Err w) = g ≡ bad (left line w.at)

-- from a place on, what F reads by the line was read, and what stands before the code stays
pub record Does (r : Reading) (ws vs : List ℕ) (F : List ℕ → List Tok → Got (List Flat)) (a : Result Reading Wrong) : Type 0 where
  pub front : take r.base vs ≡ take r.base ws
  pub reads : Says (line_of r ws) r ws vs (F (line_of r ws) (left (line_of r ws) r.at)) a
