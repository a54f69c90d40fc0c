-- Worked texts of several files, answered by the definitions: read once, and then answered from what was read.
use mathlib.Core.Path.{◌≡◌, refl, sym, ap, ◌∙◌}
use mathlib.Core.Bool.{Bool, true, false, ◌&&◌, not, false≢true}
use mathlib.Core.List.{List, [], ◌∷◌, ◌++◌, append_assoc, append-nil}
use mathlib.Core.Option.{some}
use Prim.Native.Nat.{ℕ, ◌+◌}
use lib.ListN.{length}
use lib.Dec.{eqb}
use lib.Chars.{codes}
use Rattle.base.specs.Base.{pick, Word}
use Rattle.lexer.specs.Tokens.{Tok, tok, toks, gap, Line, cut, lines}
use Rattle.grammar.specs.Grammar.{no, and_then, e_num, e_name, e_call, e_field, e_op, e_if, e_let, e_par, Item, nothing, i_use, i_kind, i_rec, i_def, item_of}
use Rattle.semantics.specs.Names.{File, Texts}
use Rattle.semantics.specs.Answers.{faults, type_of, where_is}
use Rattle.semantics.specs.Read.{Row, Source, rows_of, sources, r_faults, r_type_of, r_where_is}
use Rattle.semantics.proofs.Once.{faults_read, type_of_read, where_read}

-- texts as lines joined, each without a line's end
abbrev plain : List ℕ → Bool
plain [] = true
plain (c ∷ cs) = not (eqb c 10) && plain cs

abbrev all_plain : List (List ℕ) → Bool
all_plain [] = true
all_plain (l ∷ ls) = plain l && all_plain ls

abbrev joined : List (List ℕ) → List ℕ
joined [] = []
joined (l ∷ []) = l
joined (l ∷ m ∷ ls) = l ++ (10 ∷ joined (m ∷ ls))

abbrev starts : ℕ → List (List ℕ) → List Line
starts s [] = []
starts s (l ∷ []) = record { start = s; bytes = l } ∷ []
starts s (l ∷ m ∷ ls) = record { start = s; bytes = l } ∷ starts (1 + (s + length l)) (m ∷ ls)

both_true : (a b : Bool) → (a && b) ≡ true → (a ≡ true) × (b ≡ true)
both_true true b h = (refl, h)
both_true false b h = (h, cc)

cut_on : (s : ℕ) (acc xs rest : List ℕ) → plain xs ≡ true → cut s acc (xs ++ rest) ≡ cut s (acc ++ xs) rest
cut_on s acc [] rest h = ap (λ a. cut s a rest) (sym (append-nil acc))
cut_on s acc (c ∷ cs) rest h = go (eqb c 10) h (λ g. cut_on s (acc ++ (c ∷ [])) cs rest g ∙ ap (λ a. cut s a rest) (append_assoc acc (c ∷ []) cs))
  where
    go : (b : Bool) → (not b && plain cs) ≡ true → (plain cs ≡ true → cut s (acc ++ (c ∷ [])) (cs ++ rest) ≡ cut s (acc ++ (c ∷ cs)) rest) → pick b (record { start = s; bytes = acc } ∷ cut (1 + (s + length acc)) [] (cs ++ rest)) (cut s (acc ++ (c ∷ [])) (cs ++ rest)) ≡ cut s (acc ++ (c ∷ cs)) rest
    go true h k = absurd (false≢true h)
    go false h k = k h

cut_lines : (s : ℕ) (l : List ℕ) (ls : List (List ℕ)) → all_plain (l ∷ ls) ≡ true → cut s [] (joined (l ∷ ls)) ≡ starts s (l ∷ ls)
cut_lines s l [] h = ap (cut s []) (sym (append-nil l)) ∙ cut_on s [] l [] (both_true (plain l) true h).0
cut_lines s l (m ∷ ls) h = let b = both_true (plain l) (all_plain (m ∷ ls)) h in cut_on s [] l (10 ∷ joined (m ∷ ls)) b.0 ∙ ap (λ r. record { start = s; bytes = l } ∷ r) (cut_lines (1 + (s + length l)) m ls b.1)

lines_are : (t l : List ℕ) (ls : List (List ℕ)) → t ≡ joined (l ∷ ls) → all_plain (l ∷ ls) ≡ true → lines t ≡ starts 0 (l ∷ ls)
lines_are t l ls e h = ap (cut 0 []) e ∙ cut_lines 0 l ls h

-- lines, and what is read of each: its pieces, and what it says
abbrev l_port : List ℕ
l_port = codes "kind port = Vik, Sund, Holm"

abbrev l_port_item : Item
l_port_item = i_kind (tok (codes "port") 5 9) (tok (codes "Vik") 12 15 ∷ tok (codes "Sund") 17 21 ∷ tok (codes "Holm") 23 27 ∷ [])

l_port_says : item_of (toks gap 0 l_port) ≡ l_port_item
l_port_says =
    let ts : List Tok = tok (codes "kind") 0 4 ∷ tok (codes "port") 5 9 ∷ tok (codes "=") 10 11 ∷ tok (codes "Vik") 12 15 ∷ tok (codes ",") 15 16 ∷ tok (codes "Sund") 17 21 ∷ tok (codes ",") 21 22 ∷ tok (codes "Holm") 23 27 ∷ [] in
    let p : toks gap 0 l_port ≡ ts = refl in
    let q : item_of ts ≡ l_port_item = refl in
    ap item_of p ∙ q

abbrev l_ticket : List ℕ
l_ticket = codes "rec ticket = start port, end port, age num"

abbrev l_ticket_item : Item
l_ticket_item = i_rec (tok (codes "ticket") 4 10) (record { name = tok (codes "start") 13 18; ty = tok (codes "port") 19 23 } ∷ record { name = tok (codes "end") 25 28; ty = tok (codes "port") 29 33 } ∷ record { name = tok (codes "age") 35 38; ty = tok (codes "num") 39 42 } ∷ [])

l_ticket_says : item_of (toks gap 0 l_ticket) ≡ l_ticket_item
l_ticket_says =
    let ts : List Tok = tok (codes "rec") 0 3 ∷ tok (codes "ticket") 4 10 ∷ tok (codes "=") 11 12 ∷ tok (codes "start") 13 18 ∷ tok (codes "port") 19 23 ∷ tok (codes ",") 23 24 ∷ tok (codes "end") 25 28 ∷ tok (codes "port") 29 33 ∷ tok (codes ",") 33 34 ∷ tok (codes "age") 35 38 ∷ tok (codes "num") 39 42 ∷ [] in
    let p : toks gap 0 l_ticket ≡ ts = refl in
    let q : item_of ts ≡ l_ticket_item = refl in
    ap item_of p ∙ q

abbrev l_use : List ℕ
l_use = codes "use ports"

abbrev l_use_item : Item
l_use_item = i_use (tok (codes "ports") 4 9)

l_use_says : item_of (toks gap 0 l_use) ≡ l_use_item
l_use_says =
    let ts : List Tok = tok (codes "use") 0 3 ∷ tok (codes "ports") 4 9 ∷ [] in
    let p : toks gap 0 l_use ≡ ts = refl in
    let q : item_of ts ≡ l_use_item = refl in
    ap item_of p ∙ q

abbrev l_note : List ℕ
l_note = codes "# fares"

abbrev l_note_item : Item
l_note_item = nothing

l_note_says : item_of (toks gap 0 l_note) ≡ l_note_item
l_note_says =
    let ts : List Tok = [] in
    let p : toks gap 0 l_note ≡ ts = refl in
    let q : item_of ts ≡ l_note_item = refl in
    ap item_of p ∙ q

abbrev l_base : List ℕ
l_base = codes "def base(p port) num = if p == Vik then 40 else 25 + 3 * 5"

abbrev l_base_item : Item
l_base_item = i_def (tok (codes "base") 4 8) (record { name = tok (codes "p") 9 10; ty = tok (codes "port") 11 15 } ∷ []) (tok (codes "num") 17 20) (e_if 23 (e_op 3 (e_name (tok (codes "p") 26 27)) (e_name (tok (codes "Vik") 31 34))) (e_num (tok (codes "40") 40 42)) (e_op 0 (e_num (tok (codes "25") 48 50)) (e_op 2 (e_num (tok (codes "3") 53 54)) (e_num (tok (codes "5") 57 58)))))

l_base_says : item_of (toks gap 0 l_base) ≡ l_base_item
l_base_says =
    let ts : List Tok = tok (codes "def") 0 3 ∷ tok (codes "base") 4 8 ∷ tok (codes "(") 8 9 ∷ tok (codes "p") 9 10 ∷ tok (codes "port") 11 15 ∷ tok (codes ")") 15 16 ∷ tok (codes "num") 17 20 ∷ tok (codes "=") 21 22 ∷ tok (codes "if") 23 25 ∷ tok (codes "p") 26 27 ∷ tok (codes "==") 28 30 ∷ tok (codes "Vik") 31 34 ∷ tok (codes "then") 35 39 ∷ tok (codes "40") 40 42 ∷ tok (codes "else") 43 47 ∷ tok (codes "25") 48 50 ∷ tok (codes "+") 51 52 ∷ tok (codes "3") 53 54 ∷ tok (codes "*") 55 56 ∷ tok (codes "5") 57 58 ∷ [] in
    let p : toks gap 0 l_base ≡ ts = refl in
    let q : item_of ts ≡ l_base_item = refl in
    ap item_of p ∙ q

abbrev l_fare : List ℕ
l_fare = codes "def fare(t ticket) num = let b = base(t.start) in if t.age < 12 then 0 else b"

abbrev l_fare_item : Item
l_fare_item = i_def (tok (codes "fare") 4 8) (record { name = tok (codes "t") 9 10; ty = tok (codes "ticket") 11 17 } ∷ []) (tok (codes "num") 19 22) (e_let 25 (tok (codes "b") 29 30) (e_call (tok (codes "base") 33 37) (and_then (e_field (e_name (tok (codes "t") 38 39)) (tok (codes "start") 40 45)) no) 46) (e_if 50 (e_op 4 (e_field (e_name (tok (codes "t") 53 54)) (tok (codes "age") 55 58)) (e_num (tok (codes "12") 61 63))) (e_num (tok (codes "0") 69 70)) (e_name (tok (codes "b") 76 77))))

l_fare_says : item_of (toks gap 0 l_fare) ≡ l_fare_item
l_fare_says =
    let ts : List Tok = tok (codes "def") 0 3 ∷ tok (codes "fare") 4 8 ∷ tok (codes "(") 8 9 ∷ tok (codes "t") 9 10 ∷ tok (codes "ticket") 11 17 ∷ tok (codes ")") 17 18 ∷ tok (codes "num") 19 22 ∷ tok (codes "=") 23 24 ∷ tok (codes "let") 25 28 ∷ tok (codes "b") 29 30 ∷ tok (codes "=") 31 32 ∷ tok (codes "base") 33 37 ∷ tok (codes "(") 37 38 ∷ tok (codes "t") 38 39 ∷ tok (codes ".") 39 40 ∷ tok (codes "start") 40 45 ∷ tok (codes ")") 45 46 ∷ tok (codes "in") 47 49 ∷ tok (codes "if") 50 52 ∷ tok (codes "t") 53 54 ∷ tok (codes ".") 54 55 ∷ tok (codes "age") 55 58 ∷ tok (codes "<") 59 60 ∷ tok (codes "12") 61 63 ∷ tok (codes "then") 64 68 ∷ tok (codes "0") 69 70 ∷ tok (codes "else") 71 75 ∷ tok (codes "b") 76 77 ∷ [] in
    let p : toks gap 0 l_fare ≡ ts = refl in
    let q : item_of ts ≡ l_fare_item = refl in
    ap item_of p ∙ q

abbrev l_child : List ℕ
l_child = codes "def child(t ticket) bool = t.age < 12 and (t.start == t.end or t.age == 0)"

abbrev l_child_item : Item
l_child_item = i_def (tok (codes "child") 4 9) (record { name = tok (codes "t") 10 11; ty = tok (codes "ticket") 12 18 } ∷ []) (tok (codes "bool") 20 24) (e_op 5 (e_op 4 (e_field (e_name (tok (codes "t") 27 28)) (tok (codes "age") 29 32)) (e_num (tok (codes "12") 35 37))) (e_par 42 (e_op 6 (e_op 3 (e_field (e_name (tok (codes "t") 43 44)) (tok (codes "start") 45 50)) (e_field (e_name (tok (codes "t") 54 55)) (tok (codes "end") 56 59))) (e_op 3 (e_field (e_name (tok (codes "t") 63 64)) (tok (codes "age") 65 68)) (e_num (tok (codes "0") 72 73)))) 74))

l_child_says : item_of (toks gap 0 l_child) ≡ l_child_item
l_child_says =
    let ts : List Tok = tok (codes "def") 0 3 ∷ tok (codes "child") 4 9 ∷ tok (codes "(") 9 10 ∷ tok (codes "t") 10 11 ∷ tok (codes "ticket") 12 18 ∷ tok (codes ")") 18 19 ∷ tok (codes "bool") 20 24 ∷ tok (codes "=") 25 26 ∷ tok (codes "t") 27 28 ∷ tok (codes ".") 28 29 ∷ tok (codes "age") 29 32 ∷ tok (codes "<") 33 34 ∷ tok (codes "12") 35 37 ∷ tok (codes "and") 38 41 ∷ tok (codes "(") 42 43 ∷ tok (codes "t") 43 44 ∷ tok (codes ".") 44 45 ∷ tok (codes "start") 45 50 ∷ tok (codes "==") 51 53 ∷ tok (codes "t") 54 55 ∷ tok (codes ".") 55 56 ∷ tok (codes "end") 56 59 ∷ tok (codes "or") 60 62 ∷ tok (codes "t") 63 64 ∷ tok (codes ".") 64 65 ∷ tok (codes "age") 65 68 ∷ tok (codes "==") 69 71 ∷ tok (codes "0") 72 73 ∷ tok (codes ")") 73 74 ∷ [] in
    let p : toks gap 0 l_child ≡ ts = refl in
    let q : item_of ts ≡ l_child_item = refl in
    ap item_of p ∙ q

abbrev l_without : List ℕ
l_without = codes "kind port = Sund, Holm"

abbrev l_without_item : Item
l_without_item = i_kind (tok (codes "port") 5 9) (tok (codes "Sund") 12 16 ∷ tok (codes "Holm") 18 22 ∷ [])

l_without_says : item_of (toks gap 0 l_without) ≡ l_without_item
l_without_says =
    let ts : List Tok = tok (codes "kind") 0 4 ∷ tok (codes "port") 5 9 ∷ tok (codes "=") 10 11 ∷ tok (codes "Sund") 12 16 ∷ tok (codes ",") 16 17 ∷ tok (codes "Holm") 18 22 ∷ [] in
    let p : toks gap 0 l_without ≡ ts = refl in
    let q : item_of ts ≡ l_without_item = refl in
    ap item_of p ∙ q

abbrev l_more : List ℕ
l_more = codes "use more"

abbrev l_more_item : Item
l_more_item = i_use (tok (codes "more") 4 8)

l_more_says : item_of (toks gap 0 l_more) ≡ l_more_item
l_more_says =
    let ts : List Tok = tok (codes "use") 0 3 ∷ tok (codes "more") 4 8 ∷ [] in
    let p : toks gap 0 l_more ≡ ts = refl in
    let q : item_of ts ≡ l_more_item = refl in
    ap item_of p ∙ q

abbrev l_vik : List ℕ
l_vik = codes "kind k = Vik"

abbrev l_vik_item : Item
l_vik_item = i_kind (tok (codes "k") 5 6) (tok (codes "Vik") 9 12 ∷ [])

l_vik_says : item_of (toks gap 0 l_vik) ≡ l_vik_item
l_vik_says =
    let ts : List Tok = tok (codes "kind") 0 4 ∷ tok (codes "k") 5 6 ∷ tok (codes "=") 7 8 ∷ tok (codes "Vik") 9 12 ∷ [] in
    let p : toks gap 0 l_vik ≡ ts = refl in
    let q : item_of ts ≡ l_vik_item = refl in
    ap item_of p ∙ q

abbrev l_own : List ℕ
l_own = codes "kind port = Vik"

abbrev l_own_item : Item
l_own_item = i_kind (tok (codes "port") 5 9) (tok (codes "Vik") 12 15 ∷ [])

l_own_says : item_of (toks gap 0 l_own) ≡ l_own_item
l_own_says =
    let ts : List Tok = tok (codes "kind") 0 4 ∷ tok (codes "port") 5 9 ∷ tok (codes "=") 10 11 ∷ tok (codes "Vik") 12 15 ∷ [] in
    let p : toks gap 0 l_own ≡ ts = refl in
    let q : item_of ts ≡ l_own_item = refl in
    ap item_of p ∙ q

abbrev l_if : List ℕ
l_if = codes "def f() num = if 1 then 2 else 3 == 3"

abbrev l_if_item : Item
l_if_item = i_def (tok (codes "f") 4 5) ([]) (tok (codes "num") 8 11) (e_if 14 (e_num (tok (codes "1") 17 18)) (e_num (tok (codes "2") 24 25)) (e_op 3 (e_num (tok (codes "3") 31 32)) (e_num (tok (codes "3") 36 37))))

l_if_says : item_of (toks gap 0 l_if) ≡ l_if_item
l_if_says =
    let ts : List Tok = tok (codes "def") 0 3 ∷ tok (codes "f") 4 5 ∷ tok (codes "(") 5 6 ∷ tok (codes ")") 6 7 ∷ tok (codes "num") 8 11 ∷ tok (codes "=") 12 13 ∷ tok (codes "if") 14 16 ∷ tok (codes "1") 17 18 ∷ tok (codes "then") 19 23 ∷ tok (codes "2") 24 25 ∷ tok (codes "else") 26 30 ∷ tok (codes "3") 31 32 ∷ tok (codes "==") 33 35 ∷ tok (codes "3") 36 37 ∷ [] in
    let p : toks gap 0 l_if ≡ ts = refl in
    let q : item_of ts ≡ l_if_item = refl in
    ap item_of p ∙ q

abbrev l_age : List ℕ
l_age = codes "def f(t ticket) num = t.age"

abbrev l_age_item : Item
l_age_item = i_def (tok (codes "f") 4 5) (record { name = tok (codes "t") 6 7; ty = tok (codes "ticket") 8 14 } ∷ []) (tok (codes "num") 16 19) (e_field (e_name (tok (codes "t") 22 23)) (tok (codes "age") 24 27))

l_age_says : item_of (toks gap 0 l_age) ≡ l_age_item
l_age_says =
    let ts : List Tok = tok (codes "def") 0 3 ∷ tok (codes "f") 4 5 ∷ tok (codes "(") 5 6 ∷ tok (codes "t") 6 7 ∷ tok (codes "ticket") 8 14 ∷ tok (codes ")") 14 15 ∷ tok (codes "num") 16 19 ∷ tok (codes "=") 20 21 ∷ tok (codes "t") 22 23 ∷ tok (codes ".") 23 24 ∷ tok (codes "age") 24 27 ∷ [] in
    let p : toks gap 0 l_age ≡ ts = refl in
    let q : item_of ts ≡ l_age_item = refl in
    ap item_of p ∙ q

-- files
abbrev x : Word
x = codes "x"

abbrev ports : Word
ports = codes "ports"

abbrev fares : Word
fares = codes "fares"

abbrev more : Word
more = codes "more"

t_ports : List ℕ
t_ports = joined (l_port ∷ l_ticket ∷ [])

t_ports_is : t_ports ≡ joined (l_port ∷ l_ticket ∷ [])
unfolding t_ports
t_ports_is = refl

abbrev f_ports : File
f_ports = record { name = ports; text = t_ports }

abbrev f_ports_rows : List Row
f_ports_rows = record { start = 0; long = 27; says = l_port_item } ∷ record { start = 28; long = 42; says = l_ticket_item } ∷ []

f_ports_read : rows_of (lines t_ports) ≡ f_ports_rows
f_ports_read = ap rows_of (lines_are t_ports (l_port) (l_ticket ∷ []) t_ports_is refl) ∙ (λ i. record { start = 0; long = 27; says = l_port_says i } ∷ record { start = 28; long = 42; says = l_ticket_says i } ∷ [])

t_fares : List ℕ
t_fares = joined (l_use ∷ l_note ∷ l_base ∷ l_fare ∷ l_child ∷ [])

t_fares_is : t_fares ≡ joined (l_use ∷ l_note ∷ l_base ∷ l_fare ∷ l_child ∷ [])
unfolding t_fares
t_fares_is = refl

abbrev f_fares : File
f_fares = record { name = fares; text = t_fares }

abbrev f_fares_rows : List Row
f_fares_rows = record { start = 0; long = 9; says = l_use_item } ∷ record { start = 10; long = 7; says = l_note_item } ∷ record { start = 18; long = 58; says = l_base_item } ∷ record { start = 77; long = 77; says = l_fare_item } ∷ record { start = 155; long = 74; says = l_child_item } ∷ []

f_fares_read : rows_of (lines t_fares) ≡ f_fares_rows
f_fares_read = ap rows_of (lines_are t_fares (l_use) (l_note ∷ l_base ∷ l_fare ∷ l_child ∷ []) t_fares_is refl) ∙ (λ i. record { start = 0; long = 9; says = l_use_says i } ∷ record { start = 10; long = 7; says = l_note_says i } ∷ record { start = 18; long = 58; says = l_base_says i } ∷ record { start = 77; long = 77; says = l_fare_says i } ∷ record { start = 155; long = 74; says = l_child_says i } ∷ [])

t_without : List ℕ
t_without = joined (l_without ∷ l_ticket ∷ [])

t_without_is : t_without ≡ joined (l_without ∷ l_ticket ∷ [])
unfolding t_without
t_without_is = refl

abbrev f_without : File
f_without = record { name = ports; text = t_without }

abbrev f_without_rows : List Row
f_without_rows = record { start = 0; long = 22; says = l_without_item } ∷ record { start = 23; long = 42; says = l_ticket_item } ∷ []

f_without_read : rows_of (lines t_without) ≡ f_without_rows
f_without_read = ap rows_of (lines_are t_without (l_without) (l_ticket ∷ []) t_without_is refl) ∙ (λ i. record { start = 0; long = 22; says = l_without_says i } ∷ record { start = 23; long = 42; says = l_ticket_says i } ∷ [])

t_more : List ℕ
t_more = joined (l_vik ∷ [])

t_more_is : t_more ≡ joined (l_vik ∷ [])
unfolding t_more
t_more_is = refl

abbrev f_more : File
f_more = record { name = more; text = t_more }

abbrev f_more_rows : List Row
f_more_rows = record { start = 0; long = 12; says = l_vik_item } ∷ []

f_more_read : rows_of (lines t_more) ≡ f_more_rows
f_more_read = ap rows_of (lines_are t_more (l_vik) ([]) t_more_is refl) ∙ (λ i. record { start = 0; long = 12; says = l_vik_says i } ∷ [])

t_two : List ℕ
t_two = joined (l_use ∷ l_note ∷ l_base ∷ l_fare ∷ l_child ∷ l_more ∷ [])

t_two_is : t_two ≡ joined (l_use ∷ l_note ∷ l_base ∷ l_fare ∷ l_child ∷ l_more ∷ [])
unfolding t_two
t_two_is = refl

abbrev f_two : File
f_two = record { name = fares; text = t_two }

abbrev f_two_rows : List Row
f_two_rows = record { start = 0; long = 9; says = l_use_item } ∷ record { start = 10; long = 7; says = l_note_item } ∷ record { start = 18; long = 58; says = l_base_item } ∷ record { start = 77; long = 77; says = l_fare_item } ∷ record { start = 155; long = 74; says = l_child_item } ∷ record { start = 230; long = 8; says = l_more_item } ∷ []

f_two_read : rows_of (lines t_two) ≡ f_two_rows
f_two_read = ap rows_of (lines_are t_two (l_use) (l_note ∷ l_base ∷ l_fare ∷ l_child ∷ l_more ∷ []) t_two_is refl) ∙ (λ i. record { start = 0; long = 9; says = l_use_says i } ∷ record { start = 10; long = 7; says = l_note_says i } ∷ record { start = 18; long = 58; says = l_base_says i } ∷ record { start = 77; long = 77; says = l_fare_says i } ∷ record { start = 155; long = 74; says = l_child_says i } ∷ record { start = 230; long = 8; says = l_more_says i } ∷ [])

t_own : List ℕ
t_own = joined (l_use ∷ l_note ∷ l_base ∷ l_fare ∷ l_child ∷ l_own ∷ [])

t_own_is : t_own ≡ joined (l_use ∷ l_note ∷ l_base ∷ l_fare ∷ l_child ∷ l_own ∷ [])
unfolding t_own
t_own_is = refl

abbrev f_own : File
f_own = record { name = fares; text = t_own }

abbrev f_own_rows : List Row
f_own_rows = record { start = 0; long = 9; says = l_use_item } ∷ record { start = 10; long = 7; says = l_note_item } ∷ record { start = 18; long = 58; says = l_base_item } ∷ record { start = 77; long = 77; says = l_fare_item } ∷ record { start = 155; long = 74; says = l_child_item } ∷ record { start = 230; long = 15; says = l_own_item } ∷ []

f_own_read : rows_of (lines t_own) ≡ f_own_rows
f_own_read = ap rows_of (lines_are t_own (l_use) (l_note ∷ l_base ∷ l_fare ∷ l_child ∷ l_own ∷ []) t_own_is refl) ∙ (λ i. record { start = 0; long = 9; says = l_use_says i } ∷ record { start = 10; long = 7; says = l_note_says i } ∷ record { start = 18; long = 58; says = l_base_says i } ∷ record { start = 77; long = 77; says = l_fare_says i } ∷ record { start = 155; long = 74; says = l_child_says i } ∷ record { start = 230; long = 15; says = l_own_says i } ∷ [])

t_if : List ℕ
t_if = joined (l_if ∷ [])

t_if_is : t_if ≡ joined (l_if ∷ [])
unfolding t_if
t_if_is = refl

abbrev f_if : File
f_if = record { name = x; text = t_if }

abbrev f_if_rows : List Row
f_if_rows = record { start = 0; long = 37; says = l_if_item } ∷ []

f_if_read : rows_of (lines t_if) ≡ f_if_rows
f_if_read = ap rows_of (lines_are t_if (l_if) ([]) t_if_is refl) ∙ (λ i. record { start = 0; long = 37; says = l_if_says i } ∷ [])

t_age : List ℕ
t_age = joined (l_age ∷ [])

t_age_is : t_age ≡ joined (l_age ∷ [])
unfolding t_age
t_age_is = refl

abbrev f_age : File
f_age = record { name = x; text = t_age }

abbrev f_age_rows : List Row
f_age_rows = record { start = 0; long = 27; says = l_age_item } ∷ []

f_age_read : rows_of (lines t_age) ≡ f_age_rows
f_age_read = ap rows_of (lines_are t_age (l_age) ([]) t_age_is refl) ∙ (λ i. record { start = 0; long = 27; says = l_age_says i } ∷ [])

-- two files without faults
abbrev tariff : Texts
tariff = f_ports ∷ f_fares ∷ []

abbrev tariff_read : List Source
tariff_read = record { name = ports; rows = f_ports_rows } ∷ record { name = fares; rows = f_fares_rows } ∷ []

tariff_is : sources tariff ≡ tariff_read
tariff_is = λ i. record { name = ports; rows = f_ports_read i } ∷ record { name = fares; rows = f_fares_read i } ∷ []

-- the first has no faults
ports_fine : faults tariff ports ≡ some []
ports_fine = faults_read tariff ports ∙ ap (λ s. r_faults s ports) tariff_is ∙ refl

-- nor has the second
fares_fine : faults tariff fares ≡ some []
fares_fine = faults_read tariff fares ∙ ap (λ s. r_faults s fares) tariff_is ∙ refl

-- the type at Vik is ports' port
type_vik : type_of tariff fares 49 ≡ some (3 ∷ 5 ∷ (ports ++ codes "port"))
type_vik = type_of_read tariff fares 49 ∙ ap (λ s. r_type_of s fares 49) tariff_is ∙ refl

-- at t of t.start, ports' ticket
type_t : type_of tariff fares 115 ≡ some (3 ∷ 5 ∷ (ports ++ codes "ticket"))
type_t = type_of_read tariff fares 115 ∙ ap (λ s. r_type_of s fares 115) tariff_is ∙ refl

-- at the point behind it, ports' port
type_start : type_of tariff fares 116 ≡ some (3 ∷ 5 ∷ (ports ++ codes "port"))
type_start = type_of_read tariff fares 116 ∙ ap (λ s. r_type_of s fares 116) tariff_is ∙ refl

-- Vik is declared in ports
where_vik : where_is tariff fares 49 ≡ some (12 ∷ 15 ∷ ports)
where_vik = where_read tariff fares 49 ∙ ap (λ s. r_where_is s fares 49) tariff_is ∙ refl

-- the last b of fare is bound in its line
where_b : where_is tariff fares 153 ≡ some (106 ∷ 107 ∷ fares)
where_b = where_read tariff fares 153 ∙ ap (λ s. r_where_is s fares 153) tariff_is ∙ refl

-- a constant taken out of ports
abbrev without : Texts
without = f_without ∷ f_fares ∷ []

abbrev without_read : List Source
without_read = record { name = ports; rows = f_without_rows } ∷ record { name = fares; rows = f_fares_rows } ∷ []

without_is : sources without ≡ without_read
without_is = λ i. record { name = ports; rows = f_without_read i } ∷ record { name = fares; rows = f_fares_read i } ∷ []

-- it is no such name
vik_unknown : faults without fares ≡ some (49 ∷ 52 ∷ 2 ∷ [])
vik_unknown = faults_read without fares ∙ ap (λ s. r_faults s fares) without_is ∙ refl

-- a second file that declares it, used too
abbrev twice : Texts
twice = f_ports ∷ f_more ∷ f_two ∷ []

abbrev twice_read : List Source
twice_read = record { name = ports; rows = f_ports_rows } ∷ record { name = more; rows = f_more_rows } ∷ record { name = fares; rows = f_two_rows } ∷ []

twice_is : sources twice ≡ twice_read
twice_is = λ i. record { name = ports; rows = f_ports_read i } ∷ record { name = more; rows = f_more_read i } ∷ record { name = fares; rows = f_two_read i } ∷ []

-- there are several such names
vik_several : faults twice fares ≡ some (49 ∷ 52 ∷ 3 ∷ [])
vik_several = faults_read twice fares ∙ ap (λ s. r_faults s fares) twice_is ∙ refl

-- a kind of the same name in the file itself
abbrev own : Texts
own = f_ports ∷ f_own ∷ []

abbrev own_read : List Source
own_read = record { name = ports; rows = f_ports_rows } ∷ record { name = fares; rows = f_own_rows } ∷ []

own_is : sources own ≡ own_read
own_is = λ i. record { name = ports; rows = f_ports_read i } ∷ record { name = fares; rows = f_own_read i } ∷ []

-- base's parameter is of another type than a ticket's start
own_port : faults own fares ≡ some (115 ∷ 122 ∷ 5 ∷ [])
own_port = faults_read own fares ∙ ap (λ s. r_faults s fares) own_is ∙ refl

-- a condition and a second branch of another type: 5 at each
abbrev lone_if : Texts
lone_if = f_if ∷ []

abbrev lone_if_read : List Source
lone_if_read = record { name = x; rows = f_if_rows } ∷ []

lone_if_is : sources lone_if ≡ lone_if_read
lone_if_is = λ i. record { name = x; rows = f_if_read i } ∷ []

-- the condition is a num, the second branch a bool
small_5 : faults lone_if x ≡ some (17 ∷ 18 ∷ 5 ∷ 31 ∷ 37 ∷ 5 ∷ [])
small_5 = faults_read lone_if x ∙ ap (λ s. r_faults s x) lone_if_is ∙ refl

-- an unknown type
abbrev lone_age : Texts
lone_age = f_age ∷ []

abbrev lone_age_read : List Source
lone_age_read = record { name = x; rows = f_age_rows } ∷ []

lone_age_is : sources lone_age ≡ lone_age_read
lone_age_is = λ i. record { name = x; rows = f_age_read i } ∷ []

-- 2 at it and nothing else, since what has no type is not held against what's around it
small_6 : faults lone_age x ≡ some (8 ∷ 14 ∷ 2 ∷ [])
small_6 = faults_read lone_age x ∙ ap (λ s. r_faults s x) lone_age_is ∙ refl
