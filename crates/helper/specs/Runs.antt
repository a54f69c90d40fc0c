-- What is replied to any list of requests: each reply is that of the definition for the texts as they were then, and a refusal for want
-- of room is the only freedom.
use Rattle.std.specs.Prelude.{◌≡◌, ℕ, ◌+◌, ◌*◌, ◌<◌, ◌≤◌, ◌⊎◌, List, [], ◌∷◌, ◌++◌, length}
use Rattle.semantics.specs.Names.{Texts}
use Rattle.semantics.specs.Answers.{weigh_texts}
use Rattle.helper.specs.declared.contract.Changed.TheVariants.{Made, NoRoom}
use Rattle.helper.specs.declared.contract.Answer.TheVariants.{Words, OutFull}
use Rattle.helper.specs.declared.request.Reply.{Reply}
use Rattle.helper.specs.declared.request.Reply.TheVariants.{Changed as Change, Answered}
use Rattle.helper.specs.Says.{room}
use Rattle.helper.specs.Replies.{Call, texts_after, words_of, reply_to}

-- as the definition has it: the reply r, the texts q behind it, the words a of its answer
pub record Defined (c : Call) (p q : Texts) (r : Reply) (a : List ℕ) : Type 0 where
  pub reply : r ≡ reply_to c p
  pub texts : q ≡ texts_after c p
  pub words : a ≡ words_of c p

-- a change that can be made, with fewer words lent (w) than always suffice for the texts as they would be
pub record Narrow (c : Call) (p q : Texts) (w : ℕ) (r : Reply) (a : List ℕ) : Type 0 where
  pub could : reply_to c p ≡ Change Made
  pub few : w < room (texts_after c p)
  pub reply : r ≡ Change NoRoom
  pub texts : q ≡ p
  pub words : a ≡ []

-- an answer that is longer than the output lent (n words)
pub record Long (c : Call) (p q : Texts) (n : ℕ) (r : Reply) (a : List ℕ) : Type 0 where
  pub could : reply_to c p ≡ Answered (Words (length (words_of c p)))
  pub few : n < length (words_of c p)
  pub reply : r ≡ Answered (OutFull (length (words_of c p)))
  pub texts : q ≡ p
  pub words : a ≡ []

abbrev pub Replied : ℕ → ℕ → Call → Texts → Texts → Reply → List ℕ → Type 0
Replied w n c p q r a = Defined c p q r a ⊎ (Narrow c p q w r a ⊎ Long c p q n r a)

-- calls one after the other, from texts to texts, with the reply to each and the words of all answers
pub data Runs (w n : ℕ) : Texts → List Call → List Reply → List ℕ → Texts → Type 0 where
  ends : {p : Texts} → Runs w n p [] [] [] p
  next : {p p' q : Texts} {c : Call} {cs : List Call} {r : Reply} {rs : List Reply} {a os : List ℕ} → Replied w n c p p' r a → Runs w n p' cs rs os q → Runs w n p (c ∷ cs) (r ∷ rs) (a ++ os) q

-- 512 words for each byte and for 16 more a file always suffice
abbrev pub RoomLinear : Type 0
RoomLinear = (p : Texts) → room p ≤ 65536 + 512 * weigh_texts p
