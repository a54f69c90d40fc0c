-- Files as they are read: of each line only where it begins, how long it is, and what it says. All answers, from files so read.
use Rattle.std.specs.Prelude.{Bool, List, [], ◌∷◌, ◌++◌, ℕ, ◌+◌, ◌-◌, length, eqb}
use Rattle.std.proofs.Math.Option.{Option, some, none}
use Rattle.base.specs.Base.{pick, opt, on_some, is_some, Word, same}
use Rattle.lexer.specs.Tokens.{Line, lines, pieces}
use Rattle.lexer.specs.Words.{k_num, k_bool}
use Rattle.grammar.specs.Grammar.{Item, item_of, Field}
use Rattle.semantics.specs.Names.{File, Texts, Ty, t_num, t_bool, Decl, decls_item, find_decl, uses_item, adds, At, Found, unknown, several, one, found_type, Slot, Sig, s_unknown, s_several, s_type, s_const, s_rec, s_def}
use Rattle.semantics.specs.Check.{Link, types_in, links_in, of_item}
use Rattle.semantics.specs.Answers.{names_of, Spoken, faults_of, line_at, smallest, type_words, link_at}

-- a line as it's read, and a file
pub record Row : Type 0 where
  pub start : ℕ
  pub long : ℕ
  pub says : Item

pub record Source : Type 0 where
  pub name : Word
  pub rows : List Row

abbrev pub row : Line → Row
row l = record { start = l.start; long = length l.bytes; says = item_of (pieces l) }

abbrev pub rows_of : List Line → List Row
rows_of [] = []
rows_of (l ∷ ls) = row l ∷ rows_of ls

abbrev pub source : File → Source
source x = record { name = x.name; rows = rows_of (lines x.text) }

abbrev pub sources : Texts → List Source
sources [] = []
sources (x ∷ xs) = source x ∷ sources xs

-- the rest goes as over texts: each with the name that it has there
abbrev pub find_source : List Source → Word → Option Source
find_source [] f = none
find_source (x ∷ xs) f = pick (same x.name f) (some x) (find_source xs f)

abbrev pub r_decls : List Row → List Decl
r_decls [] = []
r_decls (l ∷ ls) = decls_item l.start l.says ++ r_decls ls

abbrev pub with_used : Word → List Word → List Word → List Word
with_used me ws [] = ws
with_used me ws (v ∷ vs) = pick (same v me) ws (adds (v ∷ []) ws)

abbrev pub r_uses : Word → List Row → List Word → List Word
r_uses me [] ws = ws
r_uses me (l ∷ ls) ws = r_uses me ls (with_used me ws (uses_item l.says))

abbrev pub r_in_file : List Source → Word → Word → Option At
r_in_file p f w = on_some (find_source p f) (λ x. on_some (find_decl (r_decls x.rows) w) (λ d. some (record { file = f; decl1 = d })))

abbrev pub found_too : Found → At → Found
found_too unknown a = one a
found_too several a = several
found_too (one b) a = several

abbrev pub r_among_used : List Source → Word → List Word → Found → Found
r_among_used p w [] r = r
r_among_used p w (g ∷ gs) r = r_among_used p w gs (opt (r_in_file p g w) r (λ a. found_too r a))

abbrev pub r_meaning : List Source → Word → Word → Found
r_meaning p f w = opt (r_in_file p f w) (opt (find_source p f) unknown (λ x. r_among_used p w (r_uses x.name x.rows []) unknown)) one

abbrev pub r_type_named : List Source → Word → Word → Option Ty
r_type_named p f w = pick (same w k_num) (some t_num) (pick (same w k_bool) (some t_bool) (found_type (r_meaning p f w)))

abbrev pub r_slots : List Source → Word → List Field → List Slot
r_slots p f [] = []
r_slots p f (x ∷ xs) = record { name = x.name.w; ty = r_type_named p f x.ty.w } ∷ r_slots p f xs

abbrev pub r_sig_decl : List Source → Word → Decl → Sig
r_sig_decl p f d = pick (eqb d.sort 0) (s_type f d.name) (pick (eqb d.sort 1) (s_const f d.name (r_type_named p f d.ty)) (pick (eqb d.sort 2) (s_rec f d.name (r_slots p f d.fields)) (s_def f d.name (r_slots p f d.fields) (r_type_named p f d.ty))))

abbrev pub r_sig_of : List Source → Found → Sig
r_sig_of p unknown = s_unknown
r_sig_of p several = s_several
r_sig_of p (one a) = r_sig_decl p a.file a.decl1

abbrev pub r_sig : List Source → Word → Word → Sig
r_sig p f w = r_sig_of p (r_meaning p f w)

abbrev pub r_there : List Source → Word → Word → Sig
r_there p f n = r_sig_of p (opt (r_in_file p f n) unknown one)

abbrev pub r_there_file : List Source → Word → Bool
r_there_file p f = is_some (find_source p f)

abbrev pub r_spoken : List Source → Word → List Word → List Row → List Spoken
r_spoken p f before [] = []
r_spoken p f before (l ∷ ls) = record { start = l.start; long = l.long; says = of_item f (r_sig p f) (r_there p) (r_there_file p) before l.says } ∷ r_spoken p f (before ++ names_of (decls_item 0 l.says)) ls

abbrev pub r_all_spoken : List Source → Source → List Spoken
r_all_spoken p x = r_spoken p x.name [] x.rows

abbrev pub r_faults : List Source → Word → Option (List ℕ)
r_faults p f = on_some (find_source p f) (λ x. some (faults_of (r_all_spoken p x)))

abbrev pub r_type_of : List Source → Word → ℕ → Option (List ℕ)
r_type_of p f n = on_some (find_source p f) (λ x. some (opt (line_at n (r_all_spoken p x)) (0 ∷ []) (λ s. type_words (on_some (smallest (n - s.start) (types_in s.says) none) (λ t. some t.ty)))))

abbrev pub r_place : List Source → Word → Spoken → Link → List ℕ
r_place p f s l = pick (eqb l.sort 0) (opt (r_in_file p l.file l.name) [] (λ a. (a.decl1.start + a.decl1.from) ∷ (a.decl1.start + a.decl1.to) ∷ l.file)) (pick (eqb l.sort 1) ((s.start + l.at) ∷ (s.start + (l.at + length l.name)) ∷ f) (0 ∷ 0 ∷ l.file))

abbrev pub r_where_is : List Source → Word → ℕ → Option (List ℕ)
r_where_is p f n = on_some (find_source p f) (λ x. some (opt (line_at n (r_all_spoken p x)) [] (λ s. opt (link_at (n - s.start) (links_in s.says)) [] (r_place p f s))))
