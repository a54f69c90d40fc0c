-- From what one call says to a run of calls.
use Rattle.std.proofs.Common.{◌≡◌, ℕ, ◌+◌, ◌<◌, ◌≤◌, Bool, true, false, ◌&&◌, leb, ◌⊎◌, List, [], ◌∷◌, ◌++◌, length, get_or, take, sym, refl, ap, ◌∙◌, subst, inl, inr, append_assoc, append-nil, le-leb}
use mathlib.Core.Option.{Option, some}
use borrow.Author.Tests.{lt-leb}
use Rattle.std.proofs.lemmas.List.{map-append, take_all, take_more}
use Rattle.base.specs.Base.{pick, opt}
use Rattle.semantics.specs.Names.{File, Texts, find_file}
use Rattle.semantics.specs.Answers.{puts_file, edits}
use Rattle.helper.specs.declared.contract.Changed.TheVariants.{Made, NoFile, NoPlace, NoRoom}
use Rattle.helper.specs.declared.contract.Answer.{Answer}
use Rattle.helper.specs.declared.contract.Answer.TheVariants.{Words, Missing, OutFull}
use Rattle.helper.specs.declared.request.Request.{Request}
use Rattle.helper.specs.declared.request.Reply.{Reply}
use Rattle.helper.specs.declared.request.Reply.TheVariants.{Changed as Change, Closed, Answered}
use Rattle.helper.specs.Says.{AskSays, room}
use Rattle.helper.specs.Replies.{Call, opens, edited, closes, asks_faults, asks_type, asks_place, ReplySays, edit_fits, texts_after, answer_of, answered, words_of, reply_to, output_len, call_of, calls_of}
use Rattle.helper.specs.Runs.{Replied, Runs, ends, next}

fits_true : (a b : ℕ) (y : File) → a ≤ b → b ≤ length y.text → edit_fits a b y ≡ true
fits_true a b y h k = ap (λ t. t && leb b (length y.text)) (le-leb a b h) ∙ le-leb b (length y.text) k

and_false : (t : Bool) → t && false ≡ false
and_false true = refl
and_false false = refl

fits_false : (a b : ℕ) (y : File) → (b < a) ⊎ (length y.text < b) → edit_fits a b y ≡ false
fits_false a b y (inl h) = ap (λ t. t && leb b (length y.text)) (lt-leb a b h)
fits_false a b y (inr h) = ap (λ t. leb a b && t) (lt-leb b (length y.text) h) ∙ and_false (leb a b)

-- what an edit comes to, by whether there is the file and the place
found : {C : Type 0} (o : Option File) (y : File) (n : C) (t : File → Bool) (u v : File → C) (b : Bool) → o ≡ some y → t y ≡ b → opt o n (λ z. pick (t z) (u z) (v z)) ≡ pick b (u y) (v y)
found o y n t u v b e h = ap (λ x. opt x n (λ z. pick (t z) (u z) (v z))) e ∙ ap (λ s. pick s (u y) (v y)) h

-- a question whose answer is r: what AskSays says of it
asked : (w : ℕ) (c : Call) (p q : Texts) (o o' : List ℕ) (a : Answer) → reply_to c p ≡ answered (answer_of c p) → texts_after c p ≡ p → AskSays (answer_of c p) p o o' q a → Replied w (length o) c p q (Answered a) (take (output_len (Answered a)) o')
asked w c p q o o' (Words n) e t h =
    let s : answer_of c p ≡ some h.1 = h.2 in
    let k : words_of c p ≡ h.1 = ap (λ x. opt x [] (λ l. l)) s in
    inl (record { reply = sym (e ∙ ap answered s ∙ ap (λ m. Answered (Words m)) (sym h.3.0)); texts = h.0 ∙ sym t; words = h.3.1 ∙ sym k })
asked w c p q o o' Missing e t h =
    inl (record { reply = sym (e ∙ ap answered h.2); texts = h.0 ∙ sym t; words = sym (ap (λ x. opt x [] (λ l. l)) h.2) })
asked w c p q o o' (OutFull n) e t h =
    let s : answer_of c p ≡ some h.2 = h.3 in
    let k : words_of c p ≡ h.2 = ap (λ x. opt x [] (λ l. l)) s in
    let m : n ≡ length (words_of c p) = h.4 ∙ sym (ap length k) in
    inr (inr (record { could = e ∙ ap answered s ∙ ap (λ l. Answered (Words (length l))) (sym k); few = subst (λ z. length o < z) m h.5; reply = ap (λ z. Answered (OutFull z)) m; texts = h.0; words = refl }))

pub replied : (w : ℕ) (c : Call) (p q : Texts) (o o' : List ℕ) (r : Reply) → ReplySays c p w o o' q r → Replied w (length o) c p q r (take (output_len r) o')
replied w (opens f x) p q o o' (Change Made) h = inl (record { reply = refl; texts = h.1; words = refl })
replied w (opens f x) p q o o' (Change NoFile) h = absurd h.1
replied w (opens f x) p q o o' (Change NoPlace) h = absurd h.1
replied w (opens f x) p q o o' (Change NoRoom) h = inr (inl (record { could = refl; few = h.1.1; reply = refl; texts = h.1.0; words = refl }))
replied w (opens f x) p q o o' (Closed b) h = absurd h.1
replied w (opens f x) p q o o' (Answered a) h = absurd h.1
replied w (edited f a b x) p q o o' (Change Made) h =
    let y = h.1.0 in
    let k = fits_true a b y h.1.2 h.1.3 in
    inl (record { reply = sym (found (find_file p f) y (Change NoFile) (edit_fits a b) (λ _. Change Made) (λ _. Change NoPlace) true h.1.1 k); texts = h.1.4 ∙ sym (found (find_file p f) y p (edit_fits a b) (λ z. puts_file f (edits a b x z.text) p) (λ _. p) true h.1.1 k); words = refl })
replied w (edited f a b x) p q o o' (Change NoFile) h =
    inl (record { reply = sym (ap (λ z. opt z (Change NoFile) (λ y. pick (edit_fits a b y) (Change Made) (Change NoPlace))) h.1.1); texts = h.1.0 ∙ sym (ap (λ z. opt z p (λ y. pick (edit_fits a b y) (puts_file f (edits a b x y.text) p) p)) h.1.1); words = refl })
replied w (edited f a b x) p q o o' (Change NoPlace) h =
    let y = h.1.0 in
    let k = fits_false a b y h.1.3 in
    inl (record { reply = sym (found (find_file p f) y (Change NoFile) (edit_fits a b) (λ _. Change Made) (λ _. Change NoPlace) false h.1.2 k); texts = h.1.1 ∙ sym (found (find_file p f) y p (edit_fits a b) (λ z. puts_file f (edits a b x z.text) p) (λ _. p) false h.1.2 k); words = refl })
replied w (edited f a b x) p q o o' (Change NoRoom) h =
    let y = h.1.0 in
    let k = fits_true a b y h.1.3 h.1.4 in
    let t = found (find_file p f) y p (edit_fits a b) (λ z. puts_file f (edits a b x z.text) p) (λ _. p) true h.1.2 k in
    inr (inl (record { could = found (find_file p f) y (Change NoFile) (edit_fits a b) (λ _. Change Made) (λ _. Change NoPlace) true h.1.2 k; few = subst (λ z. w < room z) (sym t) h.1.5; reply = refl; texts = h.1.1; words = refl }))
replied w (edited f a b x) p q o o' (Closed c) h = absurd h.1
replied w (edited f a b x) p q o o' (Answered c) h = absurd h.1
replied w (closes f) p q o o' (Change c) h = absurd h.1
replied w (closes f) p q o o' (Closed b) h = inl (record { reply = ap Closed h.1.0; texts = h.1.1; words = refl })
replied w (closes f) p q o o' (Answered a) h = absurd h.1
replied w (asks_faults f) p q o o' (Change c) h = absurd h
replied w (asks_faults f) p q o o' (Closed b) h = absurd h
replied w (asks_faults f) p q o o' (Answered a) h = asked w (asks_faults f) p q o o' a refl refl h
replied w (asks_type f n) p q o o' (Change c) h = absurd h
replied w (asks_type f n) p q o o' (Closed b) h = absurd h
replied w (asks_type f n) p q o o' (Answered a) h = asked w (asks_type f n) p q o o' a refl refl h
replied w (asks_place f n) p q o o' (Change c) h = absurd h
replied w (asks_place f n) p q o o' (Closed b) h = absurd h
replied w (asks_place f n) p q o o' (Answered a) h = asked w (asks_place f n) p q o o' a refl refl h

-- one call more behind a run
one_more : (w n : ℕ) (p q q' : Texts) (cs : List Call) (rs : List Reply) (os : List ℕ) (c : Call) (r : Reply) (a : List ℕ) → Runs w n p cs rs os q → Replied w n c q q' r a → Runs w n p (cs ++ (c ∷ [])) (rs ++ (r ∷ [])) (os ++ a) q'
one_more w n p q q' cs rs os c r a ends k = subst (λ l. Runs w n p (c ∷ []) (r ∷ []) l q') (append-nil a) (next k ends)
one_more w n p q q' cs rs os c r a (next {p' = p'} {c = d} {cs = ds} {r = s} {rs = ss} {a = b} {os = bs} h t) k =
    subst (λ l. Runs w n p (d ∷ (ds ++ (c ∷ []))) (s ∷ (ss ++ (r ∷ []))) l q') (sym (append_assoc b bs a)) (next h (one_more w n p' q q' ds ss bs c r a t k))

-- a turn of the loop: the next request is answered, and the reply and its words are put behind the others
pub turn : (w v n i : ℕ) (p q q' : Texts) (xs : List Request) (d : Request) (rs rs' : List Reply) (os os' o o' : List ℕ) (r : Reply) → Runs w n p (calls_of (take i xs)) rs os q → i < length xs → length o ≡ n → v ≡ w → ReplySays (call_of (get_or xs i d)) q v o o' q' r → rs' ≡ rs ++ (r ∷ []) → os' ≡ os ++ take (output_len r) o' → Runs w n p (calls_of (take (i + 1) xs)) rs' os' q'
turn w v n i p q q' xs d rs rs' os os' o o' r h lt l e s f g =
    let c = call_of (get_or xs i d) in
    let cs = calls_of (take i xs) in
    let calls : calls_of (take (i + 1) xs) ≡ cs ++ (c ∷ []) = ap calls_of (take_more xs i d lt) ∙ map-append call_of (take i xs) (get_or xs i d ∷ []) in
    let k : Replied w n c q q' r (take (output_len r) o') = subst (λ z. Replied w z c q q' r (take (output_len r) o')) l (replied w c q q' o o' r (subst (λ z. ReplySays c q z o o' q' r) e s)) in
    subst (λ z. Runs w n p z rs' os' q') (sym calls) (subst (λ z. Runs w n p (cs ++ (c ∷ [])) z os' q') (sym f) (subst (λ z. Runs w n p (cs ++ (c ∷ [])) (rs ++ (r ∷ [])) z q') (sym g) (one_more w n p q q' cs rs os c r (take (output_len r) o') h k)))

-- before the first request
pub started : (w n : ℕ) (p : Texts) (rs : List Reply) (os : List ℕ) → rs ≡ [] → os ≡ [] → Runs w n p [] rs os p
started w n p rs os e f = subst (λ z. Runs w n p [] z os p) (sym e) (subst (λ z. Runs w n p [] [] z p) (sym f) ends)

-- behind the last one
pub whole : (w n : ℕ) (p q : Texts) (xs : List Request) (rs : List Reply) (os : List ℕ) (i : ℕ) → length xs ≤ i → Runs w n p (calls_of (take i xs)) rs os q → Runs w n p (calls_of xs) rs os q
whole w n p q xs rs os i h k = subst (λ l. Runs w n p (calls_of l) rs os q) (take_all i xs h) k
