-- The loop: what its words stand for goes by the machine's steps, and there is room for each.
use Rattle.std.proofs.Common.{◌≡◌, ℕ, ◌+◌, ◌-◌, ◌*◌, ◌<◌, ◌≤◌, Bool, true, false, eqb, List, [], ◌∷◌, ◌++◌, length, take, drop, Ok, Err, Result, sym, refl, ap, ◌∙◌, subst, arith, length-append, length-drop}
use Rattle.std.proofs.lemmas.List.{length-take-le}
use Rattle.base.specs.Base.{pick}
use Rattle.lexer.specs.Tokens.{Tok, tok, Mode, gap, in_word, equals, note, letter, blank, Turn as PieceTurn, fresh, turn, turns, last1, toks, left}
use Rattle.grammar.specs.Machine.{Frame as Waits, f_par, f_call, f_bound, f_body, f_cond, f_then, f_else, f_right, State, going, won, step, start, effort, weight, outcome, p_begin}
use Rattle.grammar.proofs.Flat.{step_less, outcome_step, outcome_won, outcome_lost, is_won, is_lost}
use Rattle.grammar.proofs.Same.{same_expr}
use Rattle.grammar.proofs.Room.{Room, Calls, step_room, start_room, won_few}
use Rattle.parser.specs.declared.parse.Wrong.{Wrong}
use Rattle.parser.specs.declared.turn.Cursor.{Cursor}
use Rattle.parser.specs.declared.turn.Phase.{Phase}
use Rattle.parser.specs.declared.turn.Phase.TheVariants.{Begin}
use Rattle.parser.specs.declared.turn.Step.{Step}
use Rattle.parser.specs.declared.turn.Step.TheVariants.{Go, Won}
use Rattle.parser.specs.Rows.{ops_of, frames_of, line_of, phase_is, Beside, Ready, Few, Says, Does, takes, ReadIt, ReadBad}
use Rattle.parser.proofs.Words.{ops_long, frames_long, ops_none, frames_none}
use Rattle.parser.proofs.Ways.{at_state, same_line}

-- a line has no more pieces than bytes
abbrev pending : Mode → ℕ
pending gap = 0
pending (in_word w f) = 1
pending (equals f) = 1
pending note = 0

abbrev Most : ℕ → PieceTurn → Type 0
Most n t = length t.out + pending t.mode ≤ n

most_pick : (n : ℕ) (b : Bool) (x y : PieceTurn) → Most n x → Most n y → Most n (pick b x y)
most_pick n true x y p q = p
most_pick n false x y p q = q

most_fresh : (n : ℕ) (o : List Tok) («at» c : ℕ) → length o + 1 ≤ n → Most n (fresh o «at» c)
most_fresh n o «at» c h =
    most_pick n (blank c) (turn o gap) _ (omega arith) (most_pick n (eqb c 35) (turn o note) _ (omega arith) (most_pick n (letter c) (turn o (in_word (c ∷ []) «at»)) _ (omega arith)
    (most_pick n (eqb c 61) (turn o (equals «at»)) (turn (o ++ (tok (c ∷ []) «at» («at» + 1) ∷ [])) gap) (omega arith) (let l = length-append o (tok (c ∷ []) «at» («at» + 1) ∷ []) in omega arith))))

most_turn : (m : Mode) («at» c : ℕ) → Most (pending m + 1) (turns m «at» c)
most_turn gap «at» c = most_fresh 1 [] «at» c (omega arith)
most_turn (in_word w f) «at» c = most_pick 2 (letter c) (turn [] (in_word (w ++ (c ∷ [])) f)) (fresh (tok w f «at» ∷ []) «at» c) (omega arith) (most_fresh 2 (tok w f «at» ∷ []) «at» c (omega arith))
most_turn (equals f) «at» c = most_pick 2 (eqb c 61) (turn (tok (61 ∷ 61 ∷ []) f («at» + 1) ∷ []) gap) (fresh (tok (61 ∷ []) f «at» ∷ []) «at» c) (omega arith) (most_fresh 2 (tok (61 ∷ []) f «at» ∷ []) «at» c (omega arith))
most_turn note «at» c = omega arith

most_last : (m : Mode) («at» : ℕ) → length (last1 m «at») ≤ pending m
most_last gap «at» = omega arith
most_last (in_word w f) «at» = omega arith
most_last (equals f) «at» = omega arith
most_last note «at» = omega arith

most_toks : (m : Mode) («at» : ℕ) (cs : List ℕ) → length (toks m «at» cs) ≤ length cs + pending m
most_toks m «at» [] = let h = most_last m «at» in omega arith
most_toks m «at» (c ∷ cs) =
    let t = turns m «at» c in
    let h : length t.out + pending t.mode ≤ pending m + 1 = most_turn m «at» c in
    let i : length (toks t.mode («at» + 1) cs) ≤ length cs + pending t.mode = most_toks t.mode («at» + 1) cs in
    let l : length (t.out ++ toks t.mode («at» + 1) cs) ≡ length t.out + length (toks t.mode («at» + 1) cs) = length-append t.out (toks t.mode («at» + 1) cs) in
    omega arith

pub left_short : (line : List ℕ) («at» : ℕ) → length (left line «at») ≤ length line - «at»
left_short line «at» = let h = most_toks gap «at» (drop «at» line) in let l = length-drop «at» line in omega arith

-- where the loop stands, by the line
abbrev pub state : List ℕ → List ℕ → Phase → Cursor → State
state line ws m p = at_state p line ws (λ _. going (phase_is m))

-- b is the cursor at which the loop began
pub record Holds (b : Cursor) (first ws : List ℕ) (m : Phase) (p : Cursor) : Type 0 where
  pub beside : Beside b p
  pub kept : take p.base ws ≡ take p.base first
  pub comes : outcome (state (line_of p first) ws m p) ≡ outcome (start (left (line_of p first) b.at))
  pub room : Room (length (left (line_of p first) b.at)) (state (line_of p first) ws m p)
  pub onward : b.at ≤ p.at
  pub within : p.at ≤ p.len
  pub fits : p.base + 5 * p.count + 4 * p.depth ≤ length ws

pub starts : (b : Cursor) (ws : List ℕ) → b.depth ≡ 0 → b.count ≡ 0 → b.at ≤ b.len → b.base ≤ length ws → Holds b ws ws Begin b
starts b ws d c h l =
    let line = line_of b ws in
    let us = left line b.at in
    let e : state line ws Begin b ≡ start us = λ j. going p_begin us ((ap (λ d. frames_of line d ws) d ∙ frames_none line ws) j) ((ap (λ n. ops_of line b.base n ws) c ∙ ops_none line b.base ws l) j) in
    record { beside = record { len_is = refl; base_is = refl }; kept = refl; comes = ap outcome e; room = subst (Room (length us)) (sym e) (start_room us); onward = omega arith; within = h; fits = omega arith }

-- there is room for a turn
few_calls : (n l d : ℕ) (fs : List Waits) → Calls n l d fs → n < 4294967295 → Few fs
few_calls n l d [] c h = tt
few_calls n l d (f_par m ∷ fs) c h = tt
few_calls n l d (f_call p k ∷ fs) c h = let x = c.0 in omega arith
few_calls n l d (f_bound m x ∷ fs) c h = tt
few_calls n l d (f_body m ∷ fs) c h = tt
few_calls n l d (f_cond m ∷ fs) c h = tt
few_calls n l d (f_then m ∷ fs) c h = tt
few_calls n l d (f_else m ∷ fs) c h = tt
few_calls n l d (f_right o ∷ fs) c h = tt

pieces_few : (p : Cursor) (from : ℕ) (ws : List ℕ) → p.len ≤ length ws → length (left (line_of p ws) from) ≤ p.len
pieces_few p from ws h = let s = left_short (line_of p ws) from in let l = length-take-le p.len ws h in omega arith

module _ {b : Cursor} {first ws : List ℕ} {m : Phase} {p : Cursor} (line_in : b.len ≤ b.base) (short : b.len < 4294967000) (enough : b.base + 9 * b.len + 64 ≤ length first) (same_long : length ws ≡ length first) (h : Holds b first ws m p) where
  pub ready : Ready 24 p ws
  ready =
      let line = line_of p first in
      let few = pieces_few p b.at first (omega arith) in
      let f = h.fits in
      let ops_few = h.room.small.1 in
      let frames_few = h.room.small.0 in
      let ops_are = ops_long line p.base p.count ws (omega arith) in
      let frames_are = frames_long line p.depth ws (omega arith) in
      let i = h.within in
      record { at_in = h.within; line_in = omega arith; room = omega arith; few = omega arith; short = omega arith }

  pub few_waiting : Few (frames_of (line_of p ws) p.depth ws)
  few_waiting =
      let n = pieces_few p b.at first (omega arith) in
      subst (λ line. Few (frames_of line p.depth ws)) (sym (same_line p first ws (omega arith) h.kept)) (few_calls _ _ _ (frames_of (line_of p first) p.depth ws) h.room.small.2 (omega arith))

-- a turn, in the words with which the loop began
module _ {b : Cursor} {first ws vs : List ℕ} {m : Phase} {p : Cursor} (line_in : b.len ≤ b.base) (h : Holds b first ws m p) where
  pub in_first : (r : Result Step Wrong) → Does p ws vs (λ _. takes m) r → Says (line_of p first) p vs (step (state (line_of p first) ws m p)) r
  in_first r d = subst (λ line. Says line p vs (step (state line ws m p)) r) (same_line p first ws (omega arith) h.kept) d.says

  pub onwards : (k : Phase) (q : Cursor) → Does p ws vs (λ _. takes m) (Ok (Go k q)) → Holds b first vs k q
  onwards k q d =
      let s = state (line_of p first) ws m p in
      let w = in_first (Ok (Go k q)) d in
      let there : Holds b first vs k (record q { len = p.len; base = p.base }) = record { beside = record { len_is = h.beside.len_is; base_is = h.beside.base_is }; kept = d.kept ∙ h.kept; comes = ap outcome (sym w.comes) ∙ outcome_step s ∙ h.comes; room = subst (Room (length (left (line_of p first) b.at))) w.comes (step_room _ s h.room); onward = let i = h.onward in let j = w.onward in omega arith; within = w.within; fits = w.fits } in
      subst (Holds b first vs k) (λ i. record q { len = sym w.beside.len_is i; base = sym w.beside.base_is i }) there

  pub lessens : (k : Phase) (q : Cursor) → Does p ws vs (λ _. takes m) (Ok (Go k q)) → effort (state (take b.len first) vs k q) < effort (state (take b.len first) ws m p)
  lessens k q d =
      let line = line_of p first in
      let s = state line ws m p in
      let t = state line vs k (record q { base = p.base }) in
      let n = 9 * length (left line p.at) + (7 * length (frames_of line p.depth ws) + weight (phase_is m)) in
      let w = in_first (Ok (Go k q)) d in
      let l : effort (step s) ≤ n = step_less n s (omega arith) in
      let e : effort (step s) ≡ effort t = ap effort w.comes in
      let less : effort t < effort s = omega arith in
      let from_b : line ≡ take b.len first = ap (λ n. take n first) h.beside.len_is in
      subst (λ l. effort (state l vs k q) < effort (state l ws m p)) from_b (subst (λ a. effort (state line vs k (record q { base = a })) < effort s) (sym w.beside.base_is) less)

  pub reads_it : (q : Cursor) → Does p ws vs (λ _. takes m) (Ok (Won q)) → ReadIt (line_of b first) b.len b.base b.at vs q.at q.count
  reads_it q d =
      let line = line_of p first in
      let s = state line ws m p in
      let us = left line b.at in
      let n = 10 * length us + 10 in
      let w = in_first (Ok (Won q)) d in
      let co = ops_of line p.base q.count vs in
      let o : outcome (start us) ≡ won co (left line q.at) = sym h.comes ∙ sym (outcome_step s) ∙ ap outcome w.comes ∙ outcome_won co (left line q.at) in
      let r = is_won n us (left line q.at) co (omega arith) o in
      let few = won_few (length us) co (left line q.at) (subst (Room (length us)) w.comes (step_room (length us) s h.room)) in
      let are = ops_long line p.base q.count vs w.fits in
      let i = h.onward in
      let j = w.onward in
      let read : ReadIt line p.len p.base b.at vs q.at q.count = record { reads = (r.0, r.2, λ m l. same_expr m n us l (omega arith) ∙ r.1); onward = omega arith; within = w.within; few = omega arith; fits = w.fits } in
      subst (λ a. ReadIt (line_of b first) b.len a b.at vs q.at q.count) h.beside.base_is (subst (λ n. ReadIt (take n first) n p.base b.at vs q.at q.count) h.beside.len_is read)

  pub reads_bad : (w : Wrong) → Does p ws vs (λ _. takes m) (Err w) → ReadBad (line_of b first) b.len b.at w.at
  reads_bad a d =
      let line = line_of p first in
      let s = state line ws m p in
      let w = in_first (Err a) d in
      let i = h.onward in
      let j = w.onward in
      let read : ReadBad line p.len b.at a.at = record { reads = λ n l. is_lost n (left line b.at) (left line a.at) l (sym h.comes ∙ sym (outcome_step s) ∙ ap outcome w.comes ∙ outcome_lost (left line a.at)); onward = omega arith; within = w.within } in
      subst (λ n. ReadBad (take n first) n b.at a.at) h.beside.len_is read
