-- What a turn does from a place, by what the function does that it ends with; then one lemma for each way through a turn: what the token
-- at a place says of the machine's step there.
use Rattle.std.proofs.Common.{◌≡◌, ℕ, zero, suc, ◌+◌, ◌-◌, ◌<◌, ◌≤◌, Bool, true, false, eqb, leb, List, [], ◌∷◌, ◌++◌, length, take, Ok, Err, Result as Outcome, sym, refl, ap, ◌∙◌, subst, append_assoc, arith, eq-eqb, ne_eqb, le-leb}
use mathlib.Core.Option.{Option}
use borrow.Author.Tests.{lt-leb}
use Rattle.std.specs.Result.{IsErrAnd}
use Rattle.std.proofs.lemmas.List.{take-take}
use Rattle.std.proofs.lemmas.Result.{err_from_is_err_and}
use Rattle.base.specs.Base.{pick, opt, Word, same}
use Rattle.lexer.specs.Tokens.{Tok, left, next, tail1}
use Rattle.lexer.specs.Words.{k_let, k_in, k_if, k_then, k_else, t_lp, t_rp, t_comma, t_gets, t_dot, is_name, is_number, digits}
use Rattle.lexer.specs.Kinds.{operator, level_of, token_of}
use Rattle.lexer.specs.Seen.{is_end}
use Rattle.lexer.specs.declared.token.Operator.{Operator}
use Rattle.lexer.specs.declared.token.Token.{Token}
use Rattle.lexer.specs.declared.token.Token.TheVariants.{Let, In, If, Then, Else, Open, Close, Comma, Gets, Dot, Sign, Number, Name}
use Rattle.lexer.proofs.Facts.{Facts, facts, is_digit}
use Rattle.grammar.specs.Code.{Op as Flat, o_num, o_name, o_call, o_arg, o_end, o_field, o_par, o_bind, o_cond}
use Rattle.grammar.specs.Machine.{Frame as Waits, f_par, f_call, f_bound, f_body, f_cond, f_then, f_else, f_right, p_begin, p_atom, p_value, State, going, lost, names_it, eats, do_begin, do_call, do_atom, do_dot, do_op, do_value, pop, patch, base}
use Rattle.parser.specs.declared.parse.Wrong.{Wrong}
use Rattle.parser.specs.declared.turn.Cursor.{Cursor}
use Rattle.parser.specs.declared.turn.Next.{Next}
use Rattle.parser.specs.declared.turn.Phase.{Phase}
use Rattle.parser.specs.declared.turn.Step.{Step}
use Rattle.parser.specs.declared.turn.Step.TheVariants.{Go, Won}
use Rattle.parser.specs.Rows.{ops_of, frames_of, span_of, line_of, phase_is, Emits, Ready, NextSays, Shown, Says, Does, after_let, after_name, after_dot, goes_to}
use Rattle.parser.proofs.Others.{not_let, not_if, not_in, not_then, not_else, not_open, not_close, not_comma, not_gets, not_dot, not_name, not_sign, not_digits}

-- what a turn does, by the line
abbrev pub Act : Type 0
Act = List ℕ → List Tok → List Waits → List Flat → State

abbrev pub at_state : Cursor → List ℕ → List ℕ → Act → State
at_state p line ws F = F line (left line p.at) (frames_of line p.depth ws) (ops_of line p.base p.count ws)

says_by : (line : List ℕ) (p : Cursor) («at» count : ℕ) (vs : List ℕ) (x y : State) (r : Outcome Step Wrong) → x ≡ y → p.at ≤ «at» → Says line (record p { at = «at»; count = count }) vs y r → Says line p vs x r
says_by line p «at» count vs x y (Ok (Go m q)) e h s = let n = s.onward in record { comes = e ∙ s.comes; beside = record { len_is = s.beside.len_is; base_is = s.beside.base_is }; onward = omega arith; within = s.within; fits = s.fits }
says_by line p «at» count vs x y (Ok (Won q)) e h s = let n = s.onward in record { comes = e ∙ s.comes; onward = omega arith; within = s.within; fits = s.fits }
says_by line p «at» count vs x y (Err w) e h s = let n = s.onward in record { comes = e ∙ s.comes; onward = omega arith; within = s.within }

-- the same from the same place
pub onto : {p : Cursor} {ws vs : List ℕ} {F G : Act} {r : Outcome Step Wrong} → at_state p (line_of p ws) ws F ≡ at_state p (line_of p ws) ws G → Does p ws vs G r → Does p ws vs F r
onto {p = p} {ws = ws} {vs = vs} {r = r} e d = record { kept = d.kept; says = says_by (line_of p ws) p p.at p.count vs _ _ r e (omega arith) d.says }

-- behind the next piece, which is this one
abbrev pub piece_of : Cursor → List ℕ → Next → Tok
piece_of p ws n = span_of (line_of p ws) n.span

pub through : {p : Cursor} {ws vs : List ℕ} {t : Token} {n : Next} {F G : Act} {r : Outcome Step Wrong} → NextSays p ws n → n.token ≡ t → is_end t ≡ false →
    (token_of (piece_of p ws n).w ≡ t → (us : List Tok) (fs : List Waits) (c : List Flat) → F (line_of p ws) (piece_of p ws n ∷ us) fs c ≡ G (line_of p ws) us fs c) → Does n.behind ws vs G r → Does p ws vs F r
through {p = p} {ws = ws} {vs = vs} {t = t} {n = n} {F = F} {G = G} {r = r} s e h step d =
    let line = line_of p ws in
    let shown : Shown p.len ws p.at t n.span = subst (λ t. Shown p.len ws p.at t n.span) e (s.shows (ap is_end e ∙ h)) in
    let fs = frames_of line p.depth ws in
    let co = ops_of line p.base p.count ws in
    let b = s.behind in
    let is : n.behind ≡ record p { at = n.span.to } = λ i. record { len = b.beside.len_is i; base = b.beside.base_is i; at = b.at_is i; depth = b.depth_is i; count = b.count_is i } in
    let there = subst (λ q. Does q ws vs G r) is d in
    record { kept = there.kept; says = says_by line p n.span.to p.count vs _ _ r (ap (λ us. F line us fs co) shown.cuts ∙ step shown.word (left line n.span.to) fs co) s.onward there.says }

pub same_line : (p : Cursor) (ws us : List ℕ) → p.len ≤ p.base → take p.base us ≡ take p.base ws → line_of p us ≡ line_of p ws
same_line p ws us h e = sym (take-take p.len p.base us h) ∙ ap (take p.len) e ∙ take-take p.len p.base ws h

-- behind something written, by what it does to the code
later : (p : Cursor) (count : ℕ) (ws us vs : List ℕ) (T : List ℕ → List Flat → List Flat) (G : Act) (r : Outcome Step Wrong) → p.len ≤ p.base → take p.base us ≡ take p.base ws → frames_of (line_of p ws) p.depth us ≡ frames_of (line_of p ws) p.depth ws →
    ops_of (line_of p ws) p.base count us ≡ T (line_of p ws) (ops_of (line_of p ws) p.base p.count ws) → Does (record p { count = count }) us vs G r → Does p ws vs (λ line us fs c. G line us fs (T line c)) r
later p count ws us vs T G r l k f o d =
    let line = line_of p ws in
    let q : Cursor = record p { count = count } in
    let s = subst (λ line. Says line q vs (at_state q line us G) r) (same_line p ws us l k) d.says in
    record { kept = d.kept ∙ k; says = says_by line p p.at count vs _ _ r (λ j. G line (left line p.at) (sym f j) (sym o j)) (omega arith) s }

pub wrote : {p q : Cursor} {ws us vs : List ℕ} {o : List ℕ → Flat} {G : Act} {r : Outcome Step Wrong} → Emits p ws us o q → Does q us vs G r → Does p ws vs (λ line us fs c. G line us fs (c ++ (o line ∷ []))) r
wrote {p = p} {q = q} {ws = ws} {us = us} {vs = vs} {o = o} {G = G} {r = r} e d =
    let is : q ≡ record p { count = p.count + 1 } = λ i. record { len = e.beside.len_is i; base = e.beside.base_is i; at = e.at_is i; depth = e.depth_is i; count = e.count_is i } in
    later p (p.count + 1) ws us vs (λ line c. c ++ (o line ∷ [])) G r e.line_in e.kept e.waiting e.adds (subst (λ q. Does q us vs G r) is d)

pub counted : {p : Cursor} {us vs : List ℕ} {G : Act} {r : Outcome Step Wrong} (ws : List ℕ) (f k : ℕ) → p.len ≤ p.base → take p.base us ≡ take p.base ws → frames_of (line_of p ws) p.depth us ≡ frames_of (line_of p ws) p.depth ws →
    ops_of (line_of p ws) p.base p.count us ≡ patch (ops_of (line_of p ws) p.base p.count ws) f k → Does p us vs G r → Does p ws vs (λ line us fs c. G line us fs (patch c f k)) r
counted {p = p} {us = us} {vs = vs} {G = G} {r = r} ws f k l e w o d = later p p.count ws us vs (λ line c. patch c f k) G r l e w o d

-- it goes wrong here
pub stops : {p : Cursor} {ws : List ℕ} {F : Act} (w : Wrong) → w.at ≡ p.at → p.at ≤ p.len → at_state p (line_of p ws) ws F ≡ lost (left (line_of p ws) p.at) → Does p ws ws F (Err w)
stops {p = p} {ws = ws} w e h s = record { kept = refl; says = record { comes = s ∙ ap (λ a. lost (left (line_of p ws) a)) (sym e); onward = omega arith; within = omega arith } }

pub refused : {p : Cursor} {ws : List ℕ} {t : Token} {w : Wrong} {F : Act} (r : Outcome Step Wrong) → IsErrAnd r (λ e. e ≡ w) → (w.at ≡ p.at) × (token_of (next (left (line_of p ws) p.at)) ≡ t → ⊥) → p.at ≤ p.len →
    ((us : List Tok) (fs : List Waits) (c : List Flat) → (token_of (next us) ≡ t → ⊥) → F (line_of p ws) us fs c ≡ lost us) → Does p ws ws F r
refused {p = p} {ws = ws} {w = w} {F = F} r h n l step =
    let y = err_from_is_err_and r h in
    let line = line_of p ws in
    let d : Does p ws ws F (Err w) = stops w n.0 l (step (left line p.at) (frames_of line p.depth ws) (ops_of line p.base p.count ws) n.1) in
    subst (λ r. Does p ws ws F r) (sym (y.1 ∙ ap Err y.2)) d

-- nothing is read
pub moves : {k : ℕ} {p : Cursor} {ws : List ℕ} {F : Act} (m : Phase) → at_state p (line_of p ws) ws F ≡ at_state p (line_of p ws) ws (λ _. going (phase_is m)) → Ready k p ws → Does p ws ws F (Ok (Go m p))
moves m e r = record { kept = refl; says = record { comes = e; beside = record { len_is = refl; base_is = refl }; onward = omega arith; within = r.at_in; fits = let h = r.room in omega arith } }

pick_t : {A : Type 0} (b : Bool) (x y : A) → b ≡ true → pick b x y ≡ x
pick_t b x y e = ap (λ b. pick b x y) e

pick_f : {A : Type 0} (b : Bool) (x y : A) → b ≡ false → pick b x y ≡ y
pick_f b x y e = ap (λ b. pick b x y) e

fact : (w : Word) (t : Token) → token_of w ≡ t → Facts w t
fact w t e = subst (Facts w) e (facts w)

name_no : (us : List Tok) (F : Tok → List Tok → State) (t : Token) → t ≡ token_of (next us) → (t ≡ Name → ⊥) → names_it us F ≡ lost us
name_no [] F t e h = refl
name_no (u ∷ us) F t e h = pick_f (is_name u.w) _ _ ((fact u.w t (sym e)).name_is ∙ not_name t h)

eats_no : (w : Word) (us : List Tok) (F : Tok → List Tok → State) → same (next us) w ≡ false → eats w us F ≡ lost us
eats_no w [] F p = refl
eats_no w (u ∷ us) F p = pick_f (same u.w w) _ _ p

-- behind let and a name; and what an operator does
abbrev pub gets_in : ℕ → Tok → List Tok → List Waits → List Flat → State
gets_in n x us fs c = eats t_gets us (λ g xs. going p_begin xs (f_bound n x ∷ fs) c)

abbrev by_op : ℕ → List Tok → List Waits → List Flat → Option ℕ → State
by_op j us fs c o = opt o (going (p_value j) us fs c) (λ o. going p_atom (tail1 us) (f_right o ∷ fs) c)

-- the next piece is u, and its token is known
module _ (u : Tok) where
  -- an expression begins
  pub begin_let : token_of u.w ≡ Let → (us : List Tok) (fs : List Waits) (c : List Flat) → do_begin (u ∷ us) fs c ≡ after_let u.from us fs c
  begin_let w us fs c = let f = fact u.w Let w in pick_t (same u.w k_let) _ _ f.let_is ∙ pick_t (same u.w k_let) _ _ f.let_is

  pub begin_if : token_of u.w ≡ If → (us : List Tok) (fs : List Waits) (c : List Flat) → do_begin (u ∷ us) fs c ≡ going p_begin us (f_cond u.from ∷ fs) c
  begin_if w us fs c = let f = fact u.w If w in pick_f (same u.w k_let) _ _ f.let_is ∙ pick_t (same u.w k_if) _ _ f.if_is ∙ pick_t (same u.w k_if) _ _ f.if_is

  pub let_name : (n : ℕ) → token_of u.w ≡ Name → (us : List Tok) (fs : List Waits) (c : List Flat) → after_let n (u ∷ us) fs c ≡ gets_in n u us fs c
  let_name n w us fs c = pick_t (is_name u.w) _ _ (fact u.w Name w).name_is

  pub let_gets : (n : ℕ) (x : Tok) → token_of u.w ≡ Gets → (us : List Tok) (fs : List Waits) (c : List Flat) → gets_in n x (u ∷ us) fs c ≡ going p_begin us (f_bound n x ∷ fs) c
  let_gets n x w us fs c = pick_t (same u.w t_gets) _ _ (fact u.w Gets w).gets_is

  -- an atom begins
  pub atom_open : token_of u.w ≡ Open → (us : List Tok) (fs : List Waits) (c : List Flat) → do_atom (u ∷ us) fs c ≡ going p_begin us (f_par u.from ∷ fs) c
  atom_open w us fs c = pick_t (same u.w t_lp) _ _ (fact u.w Open w).open_is

  pub atom_number : token_of u.w ≡ Number → (us : List Tok) (fs : List Waits) (c : List Flat) → do_atom (u ∷ us) fs c ≡ going (p_value 7) us fs (c ++ (o_num u ∷ []))
  atom_number w us fs c = let f = fact u.w Number w in pick_f (same u.w t_lp) _ _ f.open_is ∙ pick_t (is_number u.w) _ _ f.number_is ∙ pick_t (digits u.w) _ _ (f.digits_is refl)

  pub atom_name : token_of u.w ≡ Name → (us : List Tok) (fs : List Waits) (c : List Flat) → do_atom (u ∷ us) fs c ≡ after_name u us fs c
  atom_name w us fs c = let f = fact u.w Name w in pick_f (same u.w t_lp) _ _ f.open_is ∙ pick_f (is_number u.w) _ _ f.number_is ∙ pick_t (is_name u.w) _ _ f.name_is

  pub name_call : (t : Tok) → token_of u.w ≡ Open → (us : List Tok) (fs : List Waits) (c : List Flat) → after_name t (u ∷ us) fs c ≡ do_call t us fs c
  name_call t w us fs c = pick_t (same u.w t_lp) _ _ (fact u.w Open w).open_is

  pub call_closed : (t : Tok) → token_of u.w ≡ Close → (us : List Tok) (fs : List Waits) (c : List Flat) → do_call t (u ∷ us) fs c ≡ going (p_value 7) us fs ((c ++ (o_call t 0 ∷ [])) ++ (o_end u.to ∷ []))
  call_closed t w us fs c =
      let f = fact u.w Close w in
      pick_t (same u.w t_rp) _ _ f.close_is ∙ pick_t (same u.w t_rp) _ _ f.close_is ∙ ap (going (p_value 7) us fs) (sym (append_assoc c (o_call t 0 ∷ []) (o_end u.to ∷ [])))

  -- a value is there
  pub dot_yes : token_of u.w ≡ Dot → (us : List Tok) (fs : List Waits) (c : List Flat) → do_dot (u ∷ us) fs c ≡ after_dot us fs c
  dot_yes w us fs c = pick_t (same u.w t_dot) _ _ (fact u.w Dot w).dot_is

  pub field_yes : token_of u.w ≡ Name → (us : List Tok) (fs : List Waits) (c : List Flat) → after_dot (u ∷ us) fs c ≡ going (p_value 7) us fs (c ++ (o_field u ∷ []))
  field_yes w us fs c = pick_t (is_name u.w) _ _ (fact u.w Name w).name_is

  pub op_some : (j : ℕ) (o : Operator) → level_of o ≡ j → token_of u.w ≡ Sign o → (us : List Tok) (fs : List Waits) (c : List Flat) → do_op j (u ∷ us) fs c ≡ going p_atom us (f_right (operator o) ∷ fs) c
  op_some j o h w us fs c = ap (by_op j (u ∷ us) fs c) ((fact u.w (Sign o) w).op_is j ∙ pick_t (eqb j (level_of o)) _ _ (eq-eqb j (level_of o) (sym h)))

  -- a value goes to what waits for it
  pub par_close : (n : ℕ) → token_of u.w ≡ Close → (us : List Tok) (fs : List Waits) (c : List Flat) → goes_to (f_par n) (u ∷ us) fs c ≡ going (p_value 7) us fs (c ++ (o_par n u.to ∷ []))
  par_close n w us fs c = pick_t (same u.w t_rp) _ _ (fact u.w Close w).close_is

  pub arg_comma : (p k : ℕ) → token_of u.w ≡ Comma → (us : List Tok) (fs : List Waits) (c : List Flat) → goes_to (f_call p k) (u ∷ us) fs c ≡ going p_begin us (f_call p (k + 1) ∷ fs) (c ++ (o_arg ∷ []))
  arg_comma p k w us fs c =
      let one : suc k ≡ k + 1 = omega arith in
      pick_t (same u.w t_comma) _ _ (fact u.w Comma w).comma_is ∙ ap (λ k. going p_begin us (f_call p k ∷ fs) (c ++ (o_arg ∷ []))) one

  pub arg_close : (p k : ℕ) → token_of u.w ≡ Close → (us : List Tok) (fs : List Waits) (c : List Flat) → goes_to (f_call p k) (u ∷ us) fs c ≡ going (p_value 7) us fs (patch (c ++ (o_arg ∷ [])) p (k + 1) ++ (o_end u.to ∷ []))
  arg_close p k w us fs c =
      let one : suc k ≡ k + 1 = omega arith in
      let f = fact u.w Close w in
      pick_f (same u.w t_comma) _ _ f.comma_is ∙ pick_t (same u.w t_rp) _ _ f.close_is ∙ ap (λ k. going (p_value 7) us fs (patch (c ++ (o_arg ∷ [])) p k ++ (o_end u.to ∷ []))) one

  pub bound_in : (n : ℕ) (x : Tok) → token_of u.w ≡ In → (us : List Tok) (fs : List Waits) (c : List Flat) → goes_to (f_bound n x) (u ∷ us) fs c ≡ going p_begin us (f_body n ∷ fs) (c ++ (o_bind x ∷ []))
  bound_in n x w us fs c = pick_t (same u.w k_in) _ _ (fact u.w In w).in_is

  pub cond_then : (n : ℕ) → token_of u.w ≡ Then → (us : List Tok) (fs : List Waits) (c : List Flat) → goes_to (f_cond n) (u ∷ us) fs c ≡ going p_begin us (f_then n ∷ fs) (c ++ (o_cond ∷ []))
  cond_then n w us fs c = pick_t (same u.w k_then) _ _ (fact u.w Then w).then_is

  pub then_else : (n : ℕ) → token_of u.w ≡ Else → (us : List Tok) (fs : List Waits) (c : List Flat) → goes_to (f_then n) (u ∷ us) fs c ≡ going p_begin us (f_else n ∷ fs) c
  then_else n w us fs c = pick_t (same u.w k_else) _ _ (fact u.w Else w).else_is

-- the next piece is of another token
module _ (us : List Tok) (fs : List Waits) (c : List Flat) where
  pub let_no_name : (n : ℕ) → (token_of (next us) ≡ Name → ⊥) → after_let n us fs c ≡ lost us
  let_no_name n h = name_no us _ _ refl h

  pub let_no_gets : (n : ℕ) (x : Tok) → (token_of (next us) ≡ Gets → ⊥) → gets_in n x us fs c ≡ lost us
  let_no_gets n x h = eats_no t_gets us _ ((fact (next us) _ refl).gets_is ∙ not_gets _ h)

  pub field_no : (token_of (next us) ≡ Name → ⊥) → after_dot us fs c ≡ lost us
  field_no h = name_no us _ _ refl h

  pub par_no : (n : ℕ) → (token_of (next us) ≡ Close → ⊥) → goes_to (f_par n) us fs c ≡ lost us
  par_no n h = eats_no t_rp us _ ((fact (next us) _ refl).close_is ∙ not_close _ h)

  pub bound_no : (n : ℕ) (x : Tok) → (token_of (next us) ≡ In → ⊥) → goes_to (f_bound n x) us fs c ≡ lost us
  bound_no n x h = eats_no k_in us _ ((fact (next us) _ refl).in_is ∙ not_in _ h)

  pub cond_no : (n : ℕ) → (token_of (next us) ≡ Then → ⊥) → goes_to (f_cond n) us fs c ≡ lost us
  cond_no n h = eats_no k_then us _ ((fact (next us) _ refl).then_is ∙ not_then _ h)

  pub then_no : (n : ℕ) → (token_of (next us) ≡ Else → ⊥) → goes_to (f_then n) us fs c ≡ lost us
  then_no n h = eats_no k_else us _ ((fact (next us) _ refl).else_is ∙ not_else _ h)

-- the same, where the token has a name
module _ (us : List Tok) (fs : List Waits) (c : List Flat) (t : Token) (e : t ≡ token_of (next us)) where
  pub begin_other : (t ≡ Let → ⊥) → (t ≡ If → ⊥) → do_begin us fs c ≡ going p_atom us fs c
  begin_other h k = let f = fact (next us) t (sym e) in pick_f (same (next us) k_let) _ _ (f.let_is ∙ not_let t h) ∙ pick_f (same (next us) k_if) _ _ (f.if_is ∙ not_if t k)

  pub name_only : (x : Tok) → (t ≡ Open → ⊥) → after_name x us fs c ≡ going (p_value 7) us fs (c ++ (o_name x ∷ []))
  name_only x h = pick_f (same (next us) t_lp) _ _ ((fact (next us) t (sym e)).open_is ∙ not_open t h)

  pub call_open : (x : Tok) (n : ℕ) → (t ≡ Close → ⊥) → length c ≡ n → do_call x us fs c ≡ going p_begin us (f_call n 0 ∷ fs) (c ++ (o_call x 0 ∷ []))
  call_open x n h l = pick_f (same (next us) t_rp) _ _ ((fact (next us) t (sym e)).close_is ∙ not_close t h) ∙ ap (λ n. going p_begin us (f_call n 0 ∷ fs) (c ++ (o_call x 0 ∷ []))) l

  pub dot_no : (t ≡ Dot → ⊥) → do_dot us fs c ≡ going (p_value 6) us fs c
  dot_no h = pick_f (same (next us) t_dot) _ _ ((fact (next us) t (sym e)).dot_is ∙ not_dot t h)

  pub op_none : (j : ℕ) → ((o : Operator) → t ≡ Sign o → ⊥) → do_op j us fs c ≡ going (p_value j) us fs c
  op_none j h = ap (by_op j us fs c) ((fact (next us) t (sym e)).op_is j ∙ not_sign j t h)

  pub op_other : (j : ℕ) (o : Operator) → t ≡ Sign o → (level_of o ≡ j → ⊥) → do_op j us fs c ≡ going (p_value j) us fs c
  op_other j o s h = ap (by_op j us fs c) ((fact (next us) (Sign o) (sym e ∙ s)).op_is j ∙ pick_f (eqb j (level_of o)) _ _ (ne_eqb j (level_of o) (λ x. h (sym x))))

  pub arg_no : (p k : ℕ) → (t ≡ Comma → ⊥) → (t ≡ Close → ⊥) → goes_to (f_call p k) us fs c ≡ lost us
  arg_no p k h l = pick_f (same (next us) t_comma) _ _ ((fact (next us) t (sym e)).comma_is ∙ not_comma t h) ∙ eats_no t_rp us _ ((fact (next us) t (sym e)).close_is ∙ not_close t l)

pub atom_lost : (us : List Tok) (fs : List Waits) (c : List Flat) (t : Token) → t ≡ token_of (next us) → (t ≡ Open → ⊥) → (t ≡ Number → ⊥) → (t ≡ Name → ⊥) → do_atom us fs c ≡ lost us
atom_lost [] fs c t e h k l = refl
atom_lost (u ∷ us) fs c t e h k l = pick_f (same u.w t_lp) _ _ ((fact u.w t (sym e)).open_is ∙ not_open t h) ∙ go (is_digit t) refl
  where
    go : (b : Bool) → is_digit t ≡ b → pick (is_number u.w) (pick (digits u.w) (going (p_value 7) us fs (c ++ (o_num u ∷ []))) (lost (u ∷ us)))
        (pick (is_name u.w) (pick (same (next us) t_lp) (do_call u (tail1 us) fs c) (going (p_value 7) us fs (c ++ (o_name u ∷ [])))) (lost (u ∷ us))) ≡ lost (u ∷ us)
    go true q = pick_t (is_number u.w) _ _ ((fact u.w t (sym e)).number_is ∙ q) ∙ pick_f (digits u.w) _ _ ((fact u.w t (sym e)).digits_is q ∙ not_digits t k)
    go false q = pick_f (is_number u.w) _ _ ((fact u.w t (sym e)).number_is ∙ q) ∙ pick_f (is_name u.w) _ _ ((fact u.w t (sym e)).name_is ∙ not_name t l)

-- a value of a level, by the lowest level b
module _ (us : List Tok) (fs : List Waits) (c : List Flat) (b : ℕ) (e : b ≡ base fs) where
  pub value_low : (l : ℕ) → l ≤ b → do_value l us fs c ≡ pop us fs c
  value_low zero h = refl
  value_low (suc j) h = pick_t (leb (suc j) (base fs)) _ _ (le-leb (suc j) (base fs) (omega arith))

  pub value_dot : (l : ℕ) → b < l → l - 1 ≡ 6 → do_value l us fs c ≡ do_dot us fs c
  value_dot zero h s = absurd (omega arith)
  value_dot (suc j) h s = pick_f (leb (suc j) (base fs)) _ _ (lt-leb (suc j) (base fs) (omega arith)) ∙ pick_t (eqb j 6) _ _ (eq-eqb j 6 (omega arith))

  pub value_op : (l : ℕ) → b < l → (l - 1 ≡ 6 → ⊥) → do_value l us fs c ≡ do_op (l - 1) us fs c
  value_op zero h s = absurd (omega arith)
  value_op (suc j) h s =
      let one : j ≡ suc j - 1 = omega arith in
      pick_f (leb (suc j) (base fs)) _ _ (lt-leb (suc j) (base fs) (omega arith)) ∙ pick_f (eqb j 6) _ _ (ne_eqb j 6 (λ x. s (omega arith))) ∙ ap (λ k. do_op k us fs c) one
