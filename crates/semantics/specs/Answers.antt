-- What is answered about texts, and how texts change.
use Rattle.std.specs.Prelude.{Bool, ◌&&◌, List, [], ◌∷◌, ◌++◌, ℕ, ◌+◌, ◌-◌, length, take, drop, eqb, ltb, leb}
use Rattle.std.proofs.Math.Option.{Option, some, none}
use Rattle.base.specs.Base.{pick, opt, on_some, is_some, Word, same}
use Rattle.lexer.specs.Tokens.{Line, lines, pieces}
use Rattle.grammar.specs.Grammar.{item_of}
use Rattle.semantics.specs.Names.{File, Texts, find_file, Ty, t_num, t_bool, t_of, Decl, decls_item, unknown, one, in_file, Sig, sig_of, sig}
use Rattle.semantics.specs.Check.{Fault, Typed, Link, Said, faults_in, types_in, links_in, of_item}

abbrev pub there : Texts → Word → Word → Sig
there p f n = sig_of p (opt (in_file p f n) unknown one)

abbrev pub there_file : Texts → Word → Bool
there_file p f = is_some (find_file p f)

abbrev pub names_of : List Decl → List Word
names_of [] = []
names_of (d ∷ ds) = d.name ∷ names_of ds

abbrev pub says_line : Texts → Word → List Word → Line → Said
says_line p f before l = of_item f (sig p f) (there p) (there_file p) before (item_of (pieces l))

abbrev pub declared : Line → List Word
declared l = names_of (decls_item 0 (item_of (pieces l)))

-- a line with what is said of it
pub record Spoken : Type 0 where
  pub start : ℕ
  pub long : ℕ
  pub says : Said

abbrev pub spoken : Texts → Word → List Word → List Line → List Spoken
spoken p f before [] = []
spoken p f before (l ∷ ls) = record { start = l.start; long = length l.bytes; says = says_line p f before l } ∷ spoken p f (before ++ declared l) ls

abbrev pub all_spoken : Texts → File → List Spoken
all_spoken p x = spoken p x.name [] (lines x.text)

-- faults: three numbers each, in the order of the lines
abbrev pub fault_words : ℕ → List Fault → List ℕ
fault_words s [] = []
fault_words s (x ∷ xs) = (s + x.from) ∷ (s + x.to) ∷ x.sort ∷ fault_words s xs

abbrev pub faults_of : List Spoken → List ℕ
faults_of [] = []
faults_of (s ∷ ss) = fault_words s.start (faults_in s.says) ++ faults_of ss

abbrev pub faults : Texts → Word → Option (List ℕ)
faults p f = on_some (find_file p f) (λ x. some (faults_of (all_spoken p x)))

-- the line at a place; its end belongs to it
abbrev pub line_at : ℕ → List Spoken → Option Spoken
line_at n [] = none
line_at n (s ∷ ss) = pick (leb s.start n && leb n (s.start + s.long)) (some s) (line_at n ss)

-- the smallest expression around a place, the first of those
abbrev pub around : ℕ → ℕ → ℕ → Bool
around n a b = leb a n && ltb n b

abbrev pub smaller : Typed → Option Typed → Option Typed
smaller t none = some t
smaller t (some u) = some (pick (ltb (t.to - t.from) (u.to - u.from)) t u)

abbrev pub smallest : ℕ → List Typed → Option Typed → Option Typed
smallest n [] o = o
smallest n (t ∷ ts) o = smallest n ts (pick (around n t.from t.to) (smaller t o) o)

-- a type: 0 none; 1 num; 2 bool; 3, its file's name's length, that name, its name
abbrev pub type_words : Option Ty → List ℕ
type_words none = 0 ∷ []
type_words (some t_num) = 1 ∷ []
type_words (some t_bool) = 2 ∷ []
type_words (some (t_of f n)) = 3 ∷ length f ∷ (f ++ n)

abbrev pub type_of : Texts → Word → ℕ → Option (List ℕ)
type_of p f n = on_some (find_file p f) (λ x. some (opt (line_at n (all_spoken p x)) (0 ∷ []) (λ s. type_words (on_some (smallest (n - s.start) (types_in s.says) none) (λ t. some t.ty)))))

-- where it is declared: none; or from, to, and the file's name
abbrev pub link_at : ℕ → List Link → Option Link
link_at n [] = none
link_at n (l ∷ ls) = pick (around n l.from l.to) (some l) (link_at n ls)

abbrev pub place : Texts → Word → Spoken → Link → List ℕ
place p f s l = pick (eqb l.sort 0) (opt (in_file p l.file l.name) [] (λ a. (a.decl1.start + a.decl1.from) ∷ (a.decl1.start + a.decl1.to) ∷ l.file)) (pick (eqb l.sort 1) ((s.start + l.at) ∷ (s.start + (l.at + length l.name)) ∷ f) (0 ∷ 0 ∷ l.file))

abbrev pub where_is : Texts → Word → ℕ → Option (List ℕ)
where_is p f n = on_some (find_file p f) (λ x. some (opt (line_at n (all_spoken p x)) [] (λ s. opt (link_at (n - s.start) (links_in s.says)) [] (place p f s))))

-- texts as they change
abbrev pub puts_file : Word → List ℕ → Texts → Texts
puts_file f t [] = record { name = f; text = t } ∷ []
puts_file f t (x ∷ xs) = pick (same x.name f) (record { name = f; text = t } ∷ xs) (x ∷ puts_file f t xs)

abbrev pub drops_file : Word → Texts → Texts
drops_file f [] = []
drops_file f (x ∷ xs) = pick (same x.name f) (drops_file f xs) (x ∷ drops_file f xs)

abbrev pub edits : ℕ → ℕ → List ℕ → List ℕ → List ℕ
edits a b new old = take a old ++ (new ++ drop b old)

-- how much texts weigh
abbrev pub weigh_texts : Texts → ℕ
weigh_texts [] = 0
weigh_texts (x ∷ xs) = (16 + (length x.name + length x.text)) + weigh_texts xs
