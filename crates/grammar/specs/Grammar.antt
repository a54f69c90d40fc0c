-- What a line says: expressions and items, and how they are read from pieces.
use Rattle.std.specs.Prelude.{Bool, List, [], ◌∷◌, ℕ, zero, suc, ◌+◌, ◌*◌, length, eqb}
use Rattle.base.specs.Base.{pick, opt, Word, same}
use Rattle.lexer.specs.Tokens.{Tok, Line, pieces, next, tail1, end_of}
use Rattle.lexer.specs.Words.{k_use, k_kind, k_rec, k_def, k_let, k_in, k_if, k_then, k_else, t_lp, t_rp, t_comma, t_gets, t_dot, is_name, is_number, digits, is_type, op_at, compares}

-- expressions, with places: a number; a name; a call of a name with arguments, and where its bracket ends; a field behind a point; an
-- operator by its number (0 + 1 - 2 * 3 == 4 < 5 and 6 or); an if and a let, with where they begin; brackets, from and behind
mutual
  pub data E : Type 0 where
    e_num : Tok → E
    e_name : Tok → E
    e_call : Tok → Es → ℕ → E
    e_field : E → Tok → E
    e_op : ℕ → E → E → E
    e_if : ℕ → E → E → E → E
    e_let : ℕ → Tok → E → E → E
    e_par : ℕ → E → ℕ → E

  pub data Es : Type 0 where
    no : Es
    and_then : E → Es → Es

-- where an expression begins and ends, brackets included
abbrev pub from_of : E → ℕ
from_of (e_num t) = t.from
from_of (e_name t) = t.from
from_of (e_call f es n) = f.from
from_of (e_field e x) = from_of e
from_of (e_op o a b) = from_of a
from_of (e_if n a b c) = n
from_of (e_let n x a b) = n
from_of (e_par n e m) = n

abbrev pub to_of : E → ℕ
to_of (e_num t) = t.to
to_of (e_name t) = t.to
to_of (e_call f es n) = n
to_of (e_field e x) = x.to
to_of (e_op o a b) = to_of b
to_of (e_if n a b c) = to_of c
to_of (e_let n x a b) = to_of b
to_of (e_par n e m) = m

-- a field or a parameter, and the word of its type
pub record Field : Type 0 where
  pub name : Tok
  pub ty : Tok

-- what a line is: nothing; a file used; a kind with its constants; a record with its fields; a def with its parameters, the word of its
-- result's type and its expression
pub data Item : Type 0 where
  nothing : Item
  i_use : Tok → Item
  i_kind : Tok → List Tok → Item
  i_rec : Tok → List Field → Item
  i_def : Tok → List Field → Tok → E → Item
  -- not understood, at these places
  i_bad : ℕ → ℕ → Item

-- what was read and what is left; or where it went wrong: what is left there
pub data Got (A : Type 0) : Type 0 where
  it : A → List Tok → Got A
  bad : List Tok → Got A

abbrev pub with1 : {A C : Type 0} → Got A → (A → List Tok → Got C) → Got C
with1 (it a ts) f = f a ts
with1 (bad ts) f = bad ts

-- this word is next; a word that passes a test is
abbrev pub eat : {C : Type 0} → Word → List Tok → (Tok → List Tok → Got C) → Got C
eat w [] f = bad []
eat w (t ∷ ts) f = pick (same t.w w) (f t ts) (bad (t ∷ ts))

abbrev pub a_word : (Word → Bool) → List Tok → Got Tok
a_word ok [] = bad []
a_word ok (t ∷ ts) = pick (ok t.w) (it t ts) (bad (t ∷ ts))

-- levels: 0 let and if; 1 or; 2 and; 3 one comparison; 4 sums; 5 products; 6 fields; 7 the smallest. The number bounds how deep the calls go
abbrev mutual
  pub expr : ℕ → List Tok → Got E
  expr zero ts = bad ts
  expr (suc n) ts = begins n ts (next ts)

  pub begins : ℕ → List Tok → Word → Got E
  begins zero ts w = bad ts
  begins (suc n) ts w = pick (same w k_let) (lets n ts) (pick (same w k_if) (ifs n ts) (level n 1 ts))

  pub lets : ℕ → List Tok → Got E
  lets zero ts = bad ts
  lets (suc n) ts = eat k_let ts (λ l us. with1 (a_word is_name us) (λ x vs. eat t_gets vs (λ g xs. with1 (expr n xs) (λ a ys. eat k_in ys (λ i zs. with1 (expr n zs) (λ b rs. it (e_let l.from x a b) rs))))))

  pub ifs : ℕ → List Tok → Got E
  ifs zero ts = bad ts
  ifs (suc n) ts = eat k_if ts (λ l us. with1 (expr n us) (λ a vs. eat k_then vs (λ h xs. with1 (expr n xs) (λ b ys. eat k_else ys (λ e zs. with1 (expr n zs) (λ c rs. it (e_if l.from a b c) rs))))))

  pub level : ℕ → ℕ → List Tok → Got E
  level zero l ts = bad ts
  level (suc n) l ts = pick (eqb l 7) (atom n ts) (pick (eqb l 3) (with1 (level n 4 ts) (λ a us. opt (compares (next us)) (it a us) (λ o. with1 (level n 4 (tail1 us)) (λ b vs. it (e_op o a b) vs)))) (with1 (level n (l + 1) ts) (λ a us. pick (eqb l 6) (fields n a us) (more n l a us))))

  pub more : ℕ → ℕ → E → List Tok → Got E
  more zero l a ts = bad ts
  more (suc n) l a ts = opt (op_at l (next ts)) (it a ts) (λ o. with1 (level n (l + 1) (tail1 ts)) (λ b us. more n l (e_op o a b) us))

  pub fields : ℕ → E → List Tok → Got E
  fields zero a ts = bad ts
  fields (suc n) a ts = pick (same (next ts) t_dot) (with1 (a_word is_name (tail1 ts)) (λ x us. fields n (e_field a x) us)) (it a ts)

  pub atom : ℕ → List Tok → Got E
  atom zero ts = bad ts
  atom (suc n) [] = bad []
  atom (suc n) (t ∷ ts) =
      pick (same t.w t_lp) (with1 (expr n ts) (λ a us. eat t_rp us (λ r vs. it (e_par t.from a r.to) vs)))
      (pick (is_number t.w) (pick (digits t.w) (it (e_num t) ts) (bad (t ∷ ts)))
      (pick (is_name t.w) (pick (same (next ts) t_lp) (calls n t (tail1 ts)) (it (e_name t) ts)) (bad (t ∷ ts))))

  pub calls : ℕ → Tok → List Tok → Got E
  calls zero f ts = bad ts
  calls (suc n) f ts = pick (same (next ts) t_rp) (eat t_rp ts (λ r us. it (e_call f no r.to) us)) (args n f ts (λ es. es))

  pub args : ℕ → Tok → List Tok → (Es → Es) → Got E
  args zero f ts k = bad ts
  args (suc n) f ts k = with1 (expr n ts) (λ a us. pick (same (next us) t_comma) (args n f (tail1 us) (λ es. k (and_then a es))) (eat t_rp us (λ r vs. it (e_call f (k (and_then a no)) r.to) vs)))

-- names with commas up to the end of the line
abbrev pub names : ℕ → List Tok → Got (List Tok)
names zero ts = bad ts
names (suc n) ts = with1 (a_word is_name ts) (λ x us. pick (same (next us) t_comma) (with1 (names n (tail1 us)) (λ xs vs. it (x ∷ xs) vs)) (it (x ∷ []) us))

-- x num, y port, ..
abbrev pub field_list : ℕ → List Tok → Got (List Field)
field_list zero ts = bad ts
field_list (suc n) ts = with1 (a_word is_name ts) (λ x us. with1 (a_word is_type us) (λ t vs. pick (same (next vs) t_comma) (with1 (field_list n (tail1 vs)) (λ fs xs. it (record { name = x; ty = t } ∷ fs) xs)) (it (record { name = x; ty = t } ∷ []) vs)))

abbrev pub params : ℕ → List Tok → Got (List Field)
params n ts = pick (same (next ts) t_rp) (it [] ts) (field_list n ts)

abbrev pub ended : Item → List Tok → Got Item
ended i [] = it i []
ended i (t ∷ ts) = bad (t ∷ ts)

abbrev pub reads_use : List Tok → Got Item
reads_use ts = with1 (a_word is_name ts) (λ x us. ended (i_use x) us)

abbrev pub reads_kind : ℕ → List Tok → Got Item
reads_kind n ts = with1 (a_word is_name ts) (λ x us. eat t_gets us (λ g vs. with1 (names n vs) (λ xs ys. ended (i_kind x xs) ys)))

abbrev pub reads_rec : ℕ → List Tok → Got Item
reads_rec n ts = with1 (a_word is_name ts) (λ x us. eat t_gets us (λ g vs. with1 (field_list n vs) (λ fs ys. ended (i_rec x fs) ys)))

abbrev pub reads_def : ℕ → List Tok → Got Item
reads_def n ts = with1 (a_word is_name ts) (λ x us. eat t_lp us (λ l vs. with1 (params n vs) (λ ps xs. eat t_rp xs (λ r ys. with1 (a_word is_type ys) (λ t zs. eat t_gets zs (λ g rs. with1 (expr n rs) (λ e qs. ended (i_def x ps t e) qs)))))))

abbrev pub reads1 : ℕ → Tok → List Tok → Got Item
reads1 n t ts = pick (same t.w k_use) (reads_use ts) (pick (same t.w k_kind) (reads_kind n ts) (pick (same t.w k_rec) (reads_rec n ts) (pick (same t.w k_def) (reads_def n ts) (bad (t ∷ ts)))))

-- where it goes wrong behind the last piece, the place is that piece's end
abbrev pub settled : List Tok → Got Item → Item
settled all1 (it i ts) = i
settled all1 (bad []) = i_bad (end_of all1) (end_of all1)
settled all1 (bad (t ∷ ts)) = i_bad t.from t.to

abbrev pub item_of : List Tok → Item
item_of [] = nothing
item_of (t ∷ ts) = settled (t ∷ ts) (reads1 (20 * (2 + length ts)) t ts)

abbrev pub item : Line → Item
item l = item_of (pieces l)
