-- Parts of an item read one behind another: what stands is the code of its beginning, and the rest is read from there.
use Rattle.std.proofs.Common.{◌≡◌, ℕ, ◌≤◌, List, [], ◌∷◌, ◌++◌, take, Ok, Err, Result, sym, refl, ap, ◌∙◌, subst, append_assoc, arith}
use Rattle.std.specs.Result.{IsErrAnd}
use Rattle.std.proofs.lemmas.List.{take-take}
use Rattle.std.proofs.lemmas.Result.{err_from_is_err_and}
use Rattle.lexer.specs.Tokens.{Tok, left}
use Rattle.grammar.specs.Grammar.{Got, it, bad, with1}
use Rattle.grammar.specs.Code.{Op}
use Rattle.parser.specs.Rows.{ops_of}
use Rattle.parser.specs.declared.parse.Wrong.{Wrong}
use Rattle.syntax.specs.Reads.{after, then, ends, line_of, Took, Lost, Emits, Grew, Says, Does}
use Rattle.syntax.specs.declared.reading.Reading.{Reading}

-- what is read, by the line
abbrev pub Act : Type 0
Act = List ℕ → List Tok → Got (List Op)

-- the words of the line stay while what is behind base is written
pub same_line : (r : Reading) (ws vs : List ℕ) → r.len ≤ r.base → take r.base vs ≡ take r.base ws → line_of r vs ≡ line_of r ws
same_line r ws vs h e = sym (take-take r.len r.base vs h) ∙ ap (take r.len) e ∙ take-take r.len r.base ws h

-- behind one part the next
joined : (line : List ℕ) (r q : Reading) (ws us vs : List ℕ) (g : Got (List Op)) (f : List Tok → Got (List Op)) (a : Result Reading Wrong) → Grew line r ws us g q → Says line (record q { len = r.len; base = r.base }) us vs (f (left line q.at)) a → Says line r ws vs (then g f) a
joined line r q ws us vs g f (Ok z) d w =
    record {
      done = d.done ++ w.done;
      reads = ap (λ g. then g f) d.reads ∙ ap (after d.done) w.reads;
      stands = w.stands ∙ ap (λ l. l ++ w.done) d.stands ∙ append_assoc (ops_of line r.base r.count ws) d.done w.done;
      beside = record { len_is = w.beside.len_is; base_is = w.beside.base_is };
      within = w.within;
    }
joined line r q ws us vs g f (Err x) d w = ap (λ g. then g f) d.reads ∙ ap (after d.done) w

pub chain : {r q : Reading} {ws us vs : List ℕ} {F G : Act} {a : Result Reading Wrong} → r.len ≤ r.base → Does r ws us F (Ok q) → Does q us vs G a → Does r ws vs (λ line ts. then (F line ts) (G line)) a
chain {r = r} {q = q} {ws = ws} {us = us} {vs = vs} {F = F} {G = G} {a = a} l d e =
    let line = line_of r ws in
    let b = d.reads.beside in
    let here : q ≡ record q { len = r.len; base = r.base } = λ i. record q { len = b.len_is i; base = b.base_is i } in
    let there = subst (λ q. Does q us vs G a) here e in
    let s = subst (λ line. Says line (record q { len = r.len; base = r.base }) us vs (G line (left line q.at)) a) (same_line r ws us l d.front) there.reads in
    record { front = there.front ∙ d.front; reads = joined line r q ws us vs (F line (left line r.at)) (G line) a d.reads s }

pub still : {r q : Reading} {ws vs : List ℕ} {F : Act} → r.len ≤ r.base → Does r ws vs F (Ok q) → q.len ≤ q.base
still l d = let b = d.reads.beside in omega arith

pub stopped : {r : Reading} {ws vs : List ℕ} {F : Act} {w : Wrong} (G : Act) → Does r ws vs F (Err w) → Does r ws vs (λ line ts. then (F line ts) (G line)) (Err w)
stopped {r = r} {ws = ws} G d = record { front = d.front; reads = ap (λ g. then g (G (line_of r ws))) d.reads }

-- behind a piece the rest; x is what was taken, by the line
found : {A : Type 0} (line : List ℕ) (r : Reading) (ws vs : List ℕ) (g : Got A) (x : A) (f : A → List Tok → Got (List Op)) (to : ℕ) (a : Result Reading Wrong) → g ≡ it x (left line to) → Says line (record r { at = to }) ws vs (f x (left line to)) a → Says line r ws vs (with1 g f) a
found line r ws vs g x f to (Ok z) e w = record { done = w.done; reads = ap (λ g. with1 g f) e ∙ w.reads; stands = w.stands; beside = record { len_is = w.beside.len_is; base_is = w.beside.base_is }; within = w.within }
found line r ws vs g x f to (Err y) e w = ap (λ g. with1 g f) e ∙ w

pub took : {A : Type 0} {r q : Reading} {ws vs : List ℕ} {F : List Tok → Got A} {a : Result Reading Wrong} (G : List ℕ → A → List Tok → Got (List Op)) (x : List ℕ → A) → Took r ws F (x (line_of r ws)) q → Does q ws vs (λ line. G line (x line)) a → Does r ws vs (λ line ts. with1 (F ts) (G line)) a
took {r = r} {q = q} {ws = ws} {vs = vs} {F = F} {a = a} G x t e =
    let line = line_of r ws in
    let b = t.beside in
    let here : q ≡ record r { at = q.at } = λ i. record q { len = b.len_is i; base = b.base_is i; count = t.count_is i } in
    let there = subst (λ q. Does q ws vs (λ line. G line (x line)) a) here e in
    record { front = there.front; reads = found line r ws vs (F (left line r.at)) (x line) (G line) q.at a t.reads there.reads }

pub missed : {A : Type 0} {r : Reading} {ws : List ℕ} {w : Wrong} (F : List Tok → Got A) (G : List ℕ → A → List Tok → Got (List Op)) → Lost r ws F w → Does r ws ws (λ line ts. with1 (F ts) (G line)) (Err w)
missed {r = r} {ws = ws} F G h = record { front = refl; reads = ap (λ g. with1 g (G (line_of r ws))) h }

-- one operation, by another name
pub emitted : {r q : Reading} {ws vs : List ℕ} {o : List ℕ → Op} (p : List ℕ → Op) → ((line : List ℕ) → o line ≡ p line) → Emits r ws vs o q → Does r ws vs (λ line us. it (p line ∷ []) us) (Ok q)
emitted {r = r} {q = q} {ws = ws} {vs = vs} p n e =
    let line = line_of r ws in
    record {
      front = e.front;
      reads = record {
        done = p line ∷ [];
        reads = ap (λ a. it (p line ∷ []) (left line a)) (sym e.at_is);
        stands = ap (λ n. ops_of line r.base n vs) e.count_is ∙ e.adds ∙ ap (λ o. ops_of line r.base r.count ws ++ (o ∷ [])) (n line);
        beside = record { len_is = e.beside.len_is; base_is = e.beside.base_is };
        within = let a = e.at_is in let l = e.within in omega arith;
      };
    }

-- nothing was left, and an operation ends the item
ends_more : (os ps : List Op) (ts us : List Tok) → ends [] ts ≡ it ps us → ends os ts ≡ it os ts
ends_more os ps [] us e = refl
ends_more os ps (t ∷ ts) us e = let z : ◌≡◌ {A = ℕ} 0 1 = cc in absurd (omega arith)

ends_less : (os : List Op) (ts us : List Tok) → ends [] ts ≡ bad us → ends os ts ≡ bad us
ends_less os [] us e = let z : ◌≡◌ {A = ℕ} 0 1 = cc in absurd (omega arith)
ends_less os (t ∷ ts) us e = e

pub ended : {r q z : Reading} {ws vs : List ℕ} {o : List ℕ → Op} → Does r ws ws (λ _. ends []) (Ok z) → Emits r ws vs o q → Does r ws vs (λ line. ends (o line ∷ [])) (Ok q)
ended {r = r} {z = z} {ws = ws} {o = o} d e =
    let line = line_of r ws in
    let here = emitted o (λ line. refl) e in
    let w = here.reads in
    record { front = here.front; reads = record { done = w.done; reads = ends_more (o line ∷ []) d.reads.done (left line r.at) (left line z.at) d.reads.reads ∙ w.reads; stands = w.stands; beside = w.beside; within = w.within } }

pub not_ended : {r : Reading} {ws : List ℕ} {w : Wrong} (o : List ℕ → Op) → Does r ws ws (λ _. ends []) (Err w) → Does r ws ws (λ line. ends (o line ∷ [])) (Err w)
not_ended {r = r} {ws = ws} {w = w} o d = let line = line_of r ws in record { front = d.front; reads = ends_less (o line ∷ []) (left line r.at) (left line w.at) d.reads }

-- what a ? hands on
pub fails : {r : Reading} {ws vs : List ℕ} {F : Act} {w : Wrong} (a : Result Reading Wrong) → IsErrAnd a (λ e. e ≡ w) → Does r ws vs F (Err w) → Does r ws vs F a
fails {r = r} {ws = ws} {vs = vs} {F = F} a h d = let y = err_from_is_err_and a h in subst (λ a. Does r ws vs F a) (sym (y.1 ∙ ap Err y.2)) d
