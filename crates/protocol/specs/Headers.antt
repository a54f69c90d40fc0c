-- Header lines: a word or two, and numbers, one blank between each; and the bytes that follow a header.
use Rattle.std.specs.Prelude.{◌≡◌, ℕ, suc, ◌+◌, ◌-◌, ◌&&◌, List, [], ◌∷◌, length, take, drop, Some, None, codes, Option as Perhaps, ◌==◌, nat_lt, slice_index}
use Rattle.std.specs.Borrow.{Bor}
use Rattle.base.specs.Base.{pick}
use Rattle.helper.specs.declared.request.Request.{Request}
use Rattle.helper.specs.Replies.{Call, opens, edited, closes, asks_faults, asks_type, asks_place, call_of}
use Rattle.protocol.specs.Numbers.{number_of, limit}
use Rattle.protocol.specs.declared.header.Header.{Header}
use Rattle.protocol.specs.declared.header.Header.TheVariants.{Open, Edit, Close, Faults, TypeAt, DeclaredAt}

-- bytes that are lent, if any
abbrev pub held : Perhaps (Bor (List ℕ)) → Perhaps (List ℕ)
held None = None
held (Some s) = Some s.now

abbrev pub then_with : {A B : Type 0} → Perhaps A → (A → Perhaps B) → Perhaps B
then_with None f = None
then_with (Some x) f = f x

abbrev pub or_with : {A B : Type 0} → Perhaps A → (A → B) → B → B
or_with None f b = b
or_with (Some x) f b = f x

-- what stands behind a word, if bytes begin with it
abbrev pub behind_word : List ℕ → List ℕ → Perhaps (List ℕ)
behind_word [] cs = Some cs
behind_word (w ∷ ws) [] = None
behind_word (w ∷ ws) (c ∷ cs) = pick (c == w) (behind_word ws cs) None

-- how many bytes stand before the first blank
abbrev pub blank_in : List ℕ → ℕ
blank_in [] = 0
blank_in (c ∷ cs) = pick (c == 32) 0 (suc (blank_in cs))

-- what stands before the first blank, and behind it
abbrev pub head_of : List ℕ → List ℕ
head_of cs = take (blank_in cs) cs

abbrev pub tail_of : List ℕ → List ℕ
tail_of cs = drop (suc (blank_in cs)) cs

-- two numbers, four
abbrev pub two_of : List ℕ → Perhaps (ℕ × ℕ)
two_of cs = then_with (number_of (head_of cs)) (λ a. then_with (number_of (tail_of cs)) (λ b. Some (a, b)))

abbrev pub four_of : List ℕ → Perhaps (ℕ × ℕ × ℕ × ℕ)
four_of cs = then_with (number_of (head_of cs)) (λ a. then_with (number_of (head_of (tail_of cs))) (λ b. then_with (two_of (tail_of (tail_of cs))) (λ p. Some (a, b, p.0, p.1))))

-- what is made of one number, of two, of four
abbrev pub with_one : List ℕ → (ℕ → Header) → Perhaps Header
with_one cs f = then_with (number_of cs) (λ a. Some (f a))

abbrev pub with_two : List ℕ → (ℕ → ℕ → Header) → Perhaps Header
with_two cs f = then_with (two_of cs) (λ p. Some (f p.0 p.1))

abbrev pub with_four : List ℕ → (ℕ → ℕ → ℕ → ℕ → Header) → Perhaps Header
with_four cs f = then_with (four_of cs) (λ p. Some (f p.0 p.1 p.2 p.3))

-- what a header line says, if it is one
abbrev pub header_of : List ℕ → Perhaps Header
header_of cs = or_with (behind_word (codes "open ") cs) (λ r. with_two r Open) (or_with (behind_word (codes "edit ") cs) (λ r. with_four r Edit) (or_with (behind_word (codes "close ") cs) (λ r. with_one r Close) (or_with (behind_word (codes "faults ") cs) (λ r. with_one r Faults) (or_with (behind_word (codes "type at ") cs) (λ r. with_two r TypeAt) (or_with (behind_word (codes "declared at ") cs) (λ r. with_two r DeclaredAt) None)))))

-- a line's bytes without the byte 10 that ends it
abbrev pub ended_of : List ℕ → Perhaps (List ℕ)
ended_of cs = pick (nat_lt 0 (length cs) && slice_index cs (length cs - 1) == 10) (Some (take (length cs - 1) cs)) None

-- how many bytes are counted behind a header: the name, and a text
abbrev pub counted : Header → ℕ
counted (Open n m) = n + m
counted (Edit n a b m) = n + m
counted (Close n) = n
counted (Faults n) = n
counted (TypeAt n k) = n
counted (DeclaredAt n k) = n

-- that number, where it is below the limit
abbrev pub sum_of : ℕ → ℕ → Perhaps ℕ
sum_of n m = pick (nat_lt (n + m) limit) (Some (n + m)) None

abbrev pub counted_of : Header → Perhaps ℕ
counted_of (Open n m) = sum_of n m
counted_of (Edit n a b m) = sum_of n m
counted_of (Close n) = Some n
counted_of (Faults n) = Some n
counted_of (TypeAt n k) = Some n
counted_of (DeclaredAt n k) = Some n

-- the call that a header and these bytes are
abbrev pub call_in : Header → List ℕ → Call
call_in (Open n m) cs = opens (take n cs) (drop n cs)
call_in (Edit n a b m) cs = edited (take n cs) a b (drop n cs)
call_in (Close n) cs = closes cs
call_in (Faults n) cs = asks_faults cs
call_in (TypeAt n k) cs = asks_type cs k
call_in (DeclaredAt n k) cs = asks_place cs k

abbrev pub RequestSays : Header → List ℕ → Perhaps Request → Type 0
RequestSays h cs (Some r) = (length cs ≡ counted h) × (call_of r ≡ call_in h cs)
RequestSays h cs None = length cs ≡ counted h → ⊥
