-- How many faults, types and links a line has, which numbers its faults have, and where a file's faults stand.
use mathlib.Core.Path.{◌≡◌, ap, subst}
use mathlib.Core.Bool.{Bool, true, false}
use mathlib.Core.List.{List, [], ◌∷◌, ◌++◌}
use mathlib.Core.Option.{some}
use Prim.Native.Nat.{ℕ, ◌+◌, ◌*◌, ◌≤◌}
use native.Mathlib.Omega.{arith}
use lib.ListN.{length, length-append}
use lib.Dec.{eqb}
use Rattle.base.specs.Base.{pick, on_some, Word}
use Rattle.lexer.specs.Tokens.{Tok, Line, cut, lines, pieces, gap}
use Rattle.grammar.specs.Grammar.{Item, i_bad, item}
use Rattle.grammar.specs.Code.{item_code}
use Rattle.semantics.specs.Names.{Texts, Sig, sig}
use Rattle.semantics.specs.Check.{Fault, Typed, Link, Look, faults_in, types_in, links_in, of_item}
use Rattle.semantics.specs.Answers.{there, there_file, spoken, all_spoken, declared, says_line, fault_words, faults_of, faults}
use Rattle.semantics.specs.Walk.{Output, answer, run, start}
use Rattle.semantics.specs.Theorems.{Each, item_parts, type_words, FaultNumbers, LittleSaid, Threes, FaultsInText, StandsIn}
use Rattle.semantics.proofs.Lists.{each_of}
use Rattle.semantics.proofs.Gather.{Says, Node, Faulty, item_says, item_tokens, TypeLinked}
use Rattle.semantics.proofs.Whole.{item_runs}
use Rattle.semantics.proofs.Room.{run_room}
use Rattle.semantics.proofs.Pieces.{line_few}
use Rattle.semantics.proofs.Bytes.{toks_few}
use Rattle.semantics.proofs.Stands.{within_line}

-- numbers of faults
module _ (me : Word) (here : Look) (there1 : Word → Word → Sig) (file_there : Word → Bool) (before : List Word) (it : Item) where
  abbrev F : Fault → Type 0
  F f = (1 ≤ f.sort) × (f.sort ≤ 9) × (f.sort ≡ 1 → it ≡ i_bad f.from f.to)

  abbrev T : Typed → Type 0
  T t = Unit {0}

  abbrev L : Link → Type 0
  L k = Unit {0}

  numbers : Says F T L (of_item me here there1 file_there before it)
  numbers = item_says F T L here there1 me file_there before it (record {
    tokens = each_of (Faulty F T L) (item_tokens it) (λ t a k o. token k o t);
    bad = λ a b e. (omega arith, omega arith, λ q. e);
    uses = λ t e y n. tt;
    types = each_of (TypeLinked F T L here there1) (type_words it) (λ t a y n k o l. tt);
    nodes = each_of (Node F T L here there1) (item_parts here there1 it) (λ p a. record
        { blamed = λ u q. (omega arith, omega arith, λ s. absurd (omega arith)); token = λ t e k o. token k o t; noted = λ u q. tt; linked = λ t e k o l. tt });
  })
    where
      token : (k : ℕ) → (k ≡ 5 → ⊥) × (2 ≤ k) × (k ≤ 9) → (t : Tok) → (1 ≤ k) × (k ≤ 9) × (k ≡ 1 → it ≡ i_bad t.from t.to)
      token k o t = let a : 2 ≤ k = o.1 in let b : k ≤ 9 = o.2 in (omega arith, b, λ s. absurd (omega arith))

pub fault_numbers : FaultNumbers
fault_numbers me here there1 file_there before it = (numbers me here there1 file_there before it).faults

-- how many
pub little_said : LittleSaid
little_said me here there1 file_there before l =
    let f = answer me here there1 file_there before in
    let os = item_code (item l) in
    let e = item_runs me here there1 file_there before (item l) in
    let r = run_room f os start in
    let s = of_item me here there1 file_there before (item l) in
    let few : length os ≤ length (pieces l) = line_few (pieces l) in
    let short = toks_few l.bytes gap 0 in
    let a : length (run f os start).out.faults ≤ 0 + 2 * length os = r.faults in
    let b : length (run f os start).out.types ≤ 0 + length os = r.types in
    let c : length (run f os start).out.links ≤ 0 + length os = r.links in
    let a1 : length (run f os start).out.faults ≡ length (faults_in s) = ap (λ (o : Output). length o.faults) e in
    let b1 : length (run f os start).out.types ≡ length (types_in s) = ap (λ (o : Output). length o.types) e in
    let c1 : length (run f os start).out.links ≡ length (links_in s) = ap (λ (o : Output). length o.links) e in
    (omega arith, omega arith, omega arith)

-- lines stand in their text
cut_in : (s : ℕ) (acc cs : List ℕ) (n : ℕ) → s + (length acc + length cs) ≤ n → Each (λ l. l.start + length l.bytes ≤ n) (cut s acc cs)
cut_in s acc [] n h = (omega arith, tt)
cut_in s acc (c ∷ cs) n h = go (eqb c 10) (cut_in (1 + (s + length acc)) [] cs n (omega arith)) (cut_in s (acc ++ (c ∷ [])) cs n (omega (arith, length-append acc (c ∷ []))))
  where
    go : (b : Bool) → Each (λ l. l.start + length l.bytes ≤ n) (cut (1 + (s + length acc)) [] cs) → Each (λ l. l.start + length l.bytes ≤ n) (cut s (acc ++ (c ∷ [])) cs) → Each (λ l. l.start + length l.bytes ≤ n) (pick b (record { start = s; bytes = acc } ∷ cut (1 + (s + length acc)) [] cs) (cut s (acc ++ (c ∷ [])) cs))
    go true p q = (omega arith, p)
    go false p q = q

threes_cat : (n : ℕ) (xs ys : List ℕ) → Threes n xs → Threes n ys → Threes n (xs ++ ys)
threes_cat n [] ys p q = q
threes_cat n (a ∷ []) ys p q = absurd p
threes_cat n (a ∷ b ∷ []) ys p q = absurd p
threes_cat n (a ∷ b ∷ k ∷ xs) ys p q = (p.0, threes_cat n xs ys p.1 q)

abbrev InLine : ℕ → Fault → Type 0
InLine m f = StandsIn m f.from f.to

abbrev Numbered : Item → Fault → Type 0
Numbered it f = (1 ≤ f.sort) × (f.sort ≤ 9) × (f.sort ≡ 1 → it ≡ i_bad f.from f.to)

words_in : (n s m : ℕ) (it : Item) (fs : List Fault) → s + m ≤ n → Each (InLine m) fs → Each (Numbered it) fs → Threes n (fault_words s fs)
words_in n s m it [] h p q = tt
words_in n s m it (f ∷ fs) h p q = let a : f.from ≤ f.to = p.0.0 in let b : f.to ≤ m = p.0.1 in ((omega arith, omega arith, q.0.0, q.0.1), words_in n s m it fs h p.1 q.1)

module _ (p : Texts) (f : Word) (n : ℕ) where
  spoken_in : (ls : List Line) (before : List Word) → Each (λ l. l.start + length l.bytes ≤ n) ls → Threes n (faults_of (spoken p f before ls))
  spoken_in [] before h = tt
  spoken_in (l ∷ ls) before h = threes_cat n (fault_words l.start (faults_in (says_line p f before l))) _
      (words_in n l.start (length l.bytes) (item l) (faults_in (says_line p f before l)) h.0 (within_line f (sig p f) (there p) (there_file p) before l).0 (fault_numbers f (sig p f) (there p) (there_file p) before (item l)))
      (spoken_in ls (before ++ declared l) h.1)

pub faults_in_text : FaultsInText
faults_in_text p f x ns e h =
    let a : faults p f ≡ some (faults_of (all_spoken p x)) = ap (λ o. on_some o (λ y. some (faults_of (all_spoken p y)))) e in
    let b : faults_of (all_spoken p x) ≡ ns = cc in
    subst (Threes (length x.text)) b (spoken_in p x.name (length x.text) (lines x.text) [] (cut_in 0 [] x.text (length x.text) (omega arith)))
