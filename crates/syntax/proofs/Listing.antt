-- A list read so far: what stands is its beginning, and the rest is still to be read.
use Rattle.std.proofs.Common.{◌≡◌, ℕ, ◌+◌, ◌<◌, ◌≤◌, Bool, true, false, List, [], ◌∷◌, ◌++◌, take, Ok, Err, sym, refl, ap, ◌∙◌, subst, append_assoc, append-nil, arith}
use Rattle.base.specs.Base.{pick, same}
use Rattle.lexer.specs.Tokens.{Tok, left, next, tail1}
use Rattle.lexer.specs.Words.{t_comma}
use Rattle.syntax.specs.declared.wanted.Wanted.TheVariants.{Comma}
use Rattle.grammar.specs.Grammar.{Got, it, bad, with1}
use Rattle.grammar.specs.Code.{Op}
use Rattle.parser.specs.Rows.{ops_of}
use Rattle.parser.specs.declared.parse.Wrong.{Wrong}
use Rattle.syntax.specs.Reads.{word, entry, listed, after, line_of, Beside, Took, Lost, Emits, Does}
use Rattle.syntax.specs.declared.lists.Listed.{Listed}
use Rattle.syntax.specs.declared.reading.Reading.{Reading}
use Rattle.syntax.proofs.Coded.{rest, listed_eq}
use Rattle.syntax.proofs.Progress.{same_line}

after_with : (os : List Op) (o : Op) (g : Got (List Op)) → after os (with1 g (λ ps vs. it (o ∷ ps) vs)) ≡ after (os ++ (o ∷ [])) g
after_with os o (it ps us) = ap (λ l. it l us) (sym (append_assoc os (o ∷ []) ps))
after_with os o (bad us) = refl

-- whether a comma is next
comma_yes : (us vs : List Tok) (x : Tok) → word Comma us ≡ it x vs → (same (next us) t_comma ≡ true) × (tail1 us ≡ vs)
comma_yes [] vs x e = let z : ◌≡◌ {A = ℕ} 0 1 = cc in absurd (omega arith)
comma_yes (u ∷ us) vs x e = go (same u.w t_comma) e
  where
    go : (b : Bool) → pick b (it u us) (bad (u ∷ us)) ≡ it x vs → (b ≡ true) × (us ≡ vs)
    go true p = (refl, cc)
    go false p = let z : ◌≡◌ {A = ℕ} 0 1 = cc in absurd (omega arith)

comma_no : (us vs : List Tok) → word Comma us ≡ bad vs → same (next us) t_comma ≡ false
comma_no [] vs e = refl
comma_no (u ∷ us) vs e = go (same u.w t_comma) e
  where
    go : (b : Bool) → pick b (it u us) (bad (u ∷ us)) ≡ bad vs → b ≡ false
    go true p = let z : ◌≡◌ {A = ℕ} 0 1 = cc in absurd (omega arith)
    go false p = refl

-- the list begins at r in the words ws; it goes on at p in the words vs
pub record Listing (k : Listed) (r : Reading) (ws vs : List ℕ) (p : Reading) : Type 0 where
  pub front : take r.base vs ≡ take r.base ws
  pub beside : Beside r p
  pub done : List Op
  pub reads : listed k (left (line_of r ws) r.at) ≡ after done (listed k (left (line_of r ws) p.at))
  pub stands : ops_of (line_of r ws) r.base p.count vs ≡ ops_of (line_of r ws) r.base r.count ws ++ done
  pub few : p.count < p.at
  pub within : p.at ≤ r.len

pub begins : (k : Listed) (r : Reading) (ws : List ℕ) → r.count < r.at → r.at ≤ r.len → Listing k r ws ws r
begins k r ws f l =
    let line = line_of r ws in
    record { front = refl; beside = record { len_is = refl; base_is = refl }; done = []; reads = go (listed k (left line r.at)); stands = sym (append-nil (ops_of line r.base r.count ws)); few = f; within = l }
  where
    go : (g : Got (List Op)) → g ≡ after [] g
    go (it ps us) = refl
    go (bad us) = refl

module _ {k : Listed} {r : Reading} {ws vs : List ℕ} {p : Reading} (line_in : r.len ≤ r.base) (h : Listing k r ws vs p) where
  at_line : line_of p vs ≡ line_of r ws
  at_line = ap (λ n. take n vs) h.beside.len_is ∙ same_line r ws vs line_in h.front

  read_so_far : (g : Got Op) → entry k (left (line_of r ws) p.at) ≡ g → listed k (left (line_of r ws) r.at) ≡ after h.done (with1 g (rest k))
  read_so_far g e = h.reads ∙ ap (after h.done) (listed_eq k (left (line_of r ws) p.at) ∙ ap (λ g. with1 g (rest k)) e)

  pub goes_wrong : (w : Wrong) → Lost p vs (entry k) w → Does r ws vs (λ _. listed k) (Err w)
  goes_wrong w e = record { front = h.front; reads = read_so_far (bad (left (line_of r ws) w.at)) (subst (λ l. entry k (left l p.at) ≡ bad (left l w.at)) at_line e) }

  -- one thing more of it: b is behind its pieces, and q behind its operation
  module _ {zs : List ℕ} {o : List ℕ → Op} {b q : Reading} (t : Took p vs (entry k) (o (line_of p vs)) b) (e : Emits b vs zs o q) where
    fronts : take r.base zs ≡ take r.base ws
    fronts = ap (λ n. take n zs) (sym to_base) ∙ e.front ∙ ap (λ n. take n vs) to_base ∙ h.front
      where
        to_base : b.base ≡ r.base
        to_base = t.beside.base_is ∙ h.beside.base_is

    besides : Beside r q
    besides = record { len_is = e.beside.len_is ∙ t.beside.len_is ∙ h.beside.len_is; base_is = e.beside.base_is ∙ t.beside.base_is ∙ h.beside.base_is }

    one : listed k (left (line_of r ws) r.at) ≡ after h.done (rest k (o (line_of r ws)) (left (line_of r ws) q.at))
    one = read_so_far (it (o (line_of r ws)) (left (line_of r ws) q.at)) (subst (λ l. entry k (left l p.at) ≡ it (o l) (left l b.at)) at_line t.reads ∙ ap (λ a. it (o (line_of r ws)) (left (line_of r ws) a)) (sym e.at_is))

    stood : ops_of (line_of r ws) r.base q.count zs ≡ ops_of (line_of r ws) r.base r.count ws ++ (h.done ++ (o (line_of r ws) ∷ []))
    stood =
        let line = line_of r ws in
        let same : line_of b vs ≡ line = ap (λ n. take n vs) t.beside.len_is ∙ at_line in
        let adds = subst (λ l. ops_of l b.base (b.count + 1) zs ≡ ops_of l b.base b.count vs ++ (o l ∷ [])) same e.adds in
        let base : b.base ≡ r.base = t.beside.base_is ∙ h.beside.base_is in
        let there = subst (λ n. ops_of line n (b.count + 1) zs ≡ ops_of line n b.count vs ++ (o line ∷ [])) base adds in
        ap (λ n. ops_of line r.base n zs) e.count_is ∙ there ∙ ap (λ n. ops_of line r.base n vs ++ (o line ∷ [])) t.count_is ∙ ap (λ l. l ++ (o line ∷ [])) h.stands ∙ append_assoc (ops_of line r.base r.count ws) h.done (o line ∷ [])

    its_line : line_of q zs ≡ line_of r ws
    its_line = ap (λ n. take n zs) besides.len_is ∙ same_line r ws zs line_in fronts

    ways : (c : Bool) → same (next (left (line_of r ws) q.at)) t_comma ≡ c → listed k (left (line_of r ws) r.at) ≡ after h.done (pick c (with1 (listed k (tail1 (left (line_of r ws) q.at))) (λ os vs. it (o (line_of r ws) ∷ os) vs)) (it (o (line_of r ws) ∷ []) (left (line_of r ws) q.at)))
    ways c x = one ∙ ap (λ c. after h.done (pick c (with1 (listed k (tail1 (left (line_of r ws) q.at))) (λ os vs. it (o (line_of r ws) ∷ os) vs)) (it (o (line_of r ws) ∷ []) (left (line_of r ws) q.at)))) x

    pub ends_here : (w : Wrong) → Lost q zs (word Comma) w → Does r ws zs (λ _. listed k) (Ok q)
    ends_here w c =
        let line = line_of r ws in
        let no = comma_no (left line q.at) (left line w.at) (subst (λ l. word Comma (left l q.at) ≡ bad (left l w.at)) its_line c) in
        record { front = fronts; reads = record { done = h.done ++ (o line ∷ []); reads = ways false no; stands = stood; beside = besides; within = let a = e.at_is in let l = t.within in let n = h.beside.len_is in omega arith } }

    pub goes_on : {n : Reading} (x : List ℕ → Tok) → Took q zs (word Comma) (x (line_of q zs)) n → Listing k r ws zs n
    goes_on {n = n} x c =
        let line = line_of r ws in
        let yes = comma_yes (left line q.at) (left line n.at) (x line) (subst (λ l. word Comma (left l q.at) ≡ it (x l) (left l n.at)) its_line c.reads) in
        let lens = besides.len_is in
        record {
          front = fronts;
          beside = record { len_is = c.beside.len_is ∙ besides.len_is; base_is = c.beside.base_is ∙ besides.base_is };
          done = h.done ++ (o line ∷ []);
          reads = ways true yes.0 ∙ after_with h.done (o line) (listed k (tail1 (left line q.at))) ∙ ap (λ us. after (h.done ++ (o line ∷ [])) (listed k us)) yes.1;
          stands = ap (λ n. ops_of line r.base n zs) c.count_is ∙ stood;
          few = let f = h.few in let a = t.onward in let b = e.at_is in let d = e.count_is in let g = t.count_is in let i = c.count_is in let j = c.onward in omega arith;
          within = let i = c.within in omega arith;
        }
