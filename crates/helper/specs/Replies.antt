-- What is replied to a request, by the definitions.
use Rattle.std.specs.Prelude.{◌≡◌, ℕ, Bool, ◌&&◌, List, [], length, map, nat_le}
use Rattle.std.proofs.Math.Option.{Option, some, none}
use Rattle.base.specs.Base.{Word, pick, opt, is_some}
use Rattle.semantics.specs.Names.{File, Texts, find_file}
use Rattle.semantics.specs.Answers.{faults, type_of, where_is, puts_file, drops_file, edits}
use Rattle.helper.specs.declared.contract.Changed.{Changed}
use Rattle.helper.specs.declared.contract.Changed.TheVariants.{Made, NoFile, NoPlace}
use Rattle.helper.specs.declared.contract.Answer.{Answer}
use Rattle.helper.specs.declared.contract.Answer.TheVariants.{Words, Missing, OutFull}
use Rattle.helper.specs.declared.request.Request.{Request}
use Rattle.helper.specs.declared.request.Request.TheVariants.{Open, Edit, Close, Faults, TypeAt, DeclaredAt}
use Rattle.helper.specs.declared.request.Reply.{Reply}
use Rattle.helper.specs.declared.request.Reply.TheVariants.{Changed as Change, Closed, Answered}
use Rattle.helper.specs.Says.{OpenSays, EditSays, CloseSays, AskSays}

-- a request by its values: a file's name first
pub data Call : Type 0 where
  opens : Word → List ℕ → Call
  edited : Word → ℕ → ℕ → List ℕ → Call
  closes : Word → Call
  asks_faults : Word → Call
  asks_type : Word → ℕ → Call
  asks_place : Word → ℕ → Call

abbrev pub call_of : Request → Call
call_of (Open name text) = opens name.now text.now
call_of (Edit name from to new) = edited name.now from to new.now
call_of (Close name) = closes name.now
call_of (Faults name) = asks_faults name.now
call_of (TypeAt name place) = asks_type name.now place
call_of (DeclaredAt name place) = asks_place name.now place

-- a reply is of its sort
abbrev pub of_change : (Changed → Type 0) → Reply → Type 0
of_change P (Change r) = P r
of_change P (Closed b) = ⊥
of_change P (Answered a) = ⊥

abbrev pub of_close : (Bool → Type 0) → Reply → Type 0
of_close P (Change r) = ⊥
of_close P (Closed b) = P b
of_close P (Answered a) = ⊥

abbrev pub of_answer : (Answer → Type 0) → Reply → Type 0
of_answer P (Change r) = ⊥
of_answer P (Closed b) = ⊥
of_answer P (Answered a) = P a

-- the reply to a call: texts before (p) and after (q), w words lent, the output before (o) and after (o')
abbrev pub ReplySays : Call → Texts → ℕ → List ℕ → List ℕ → Texts → Reply → Type 0
ReplySays (opens f x) p w o o' q r = (o' ≡ o) × of_change (OpenSays p w f x q) r
ReplySays (edited f a b x) p w o o' q r = (o' ≡ o) × of_change (EditSays p w f a b x q) r
ReplySays (closes f) p w o o' q r = (o' ≡ o) × of_close (CloseSays p f q) r
ReplySays (asks_faults f) p w o o' q r = of_answer (AskSays (faults p f) p o o' q) r
ReplySays (asks_type f n) p w o o' q r = of_answer (AskSays (type_of p f n) p o o' q) r
ReplySays (asks_place f n) p w o o' q r = of_answer (AskSays (where_is p f n) p o o' q) r

-- what a call comes to where there is room: the texts behind it, the reply, and the words of the answer
abbrev pub edit_fits : ℕ → ℕ → File → Bool
edit_fits a b y = nat_le a b && nat_le b (length y.text)

abbrev pub texts_after : Call → Texts → Texts
texts_after (opens f x) p = puts_file f x p
texts_after (edited f a b x) p = opt (find_file p f) p (λ y. pick (edit_fits a b y) (puts_file f (edits a b x y.text) p) p)
texts_after (closes f) p = drops_file f p
texts_after (asks_faults f) p = p
texts_after (asks_type f n) p = p
texts_after (asks_place f n) p = p

abbrev pub answer_of : Call → Texts → Option (List ℕ)
answer_of (opens f x) p = none
answer_of (edited f a b x) p = none
answer_of (closes f) p = none
answer_of (asks_faults f) p = faults p f
answer_of (asks_type f n) p = type_of p f n
answer_of (asks_place f n) p = where_is p f n

abbrev pub words_of : Call → Texts → List ℕ
words_of c p = opt (answer_of c p) [] (λ a. a)

abbrev pub answered : Option (List ℕ) → Reply
answered none = Answered Missing
answered (some a) = Answered (Words (length a))

abbrev pub reply_to : Call → Texts → Reply
reply_to (opens f x) p = Change Made
reply_to (edited f a b x) p = opt (find_file p f) (Change NoFile) (λ y. pick (edit_fits a b y) (Change Made) (Change NoPlace))
reply_to (closes f) p = Closed (is_some (find_file p f))
reply_to (asks_faults f) p = answered (faults p f)
reply_to (asks_type f n) p = answered (type_of p f n)
reply_to (asks_place f n) p = answered (where_is p f n)

-- how many words of output a reply has
abbrev pub output_len : Reply → ℕ
output_len (Change r) = 0
output_len (Closed b) = 0
output_len (Answered (Words n)) = n
output_len (Answered Missing) = 0
output_len (Answered (OutFull n)) = 0

abbrev pub calls_of : List Request → List Call
calls_of rs = map call_of rs
