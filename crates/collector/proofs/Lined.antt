-- All that a line declares, one declaration after the other.
use Rattle.std.proofs.Common.{◌≡◌, ℕ, zero, suc, ◌+◌, ◌<◌, ◌≤◌, List, [], ◌∷◌, length, take, Some, Ok, Err, sym, ap, ◌∙◌, subst, arith}
use Rattle.std.specs.List.{slice_get}
use Rattle.std.proofs.lemmas.List.{take_all}
use Rattle.semantics.specs.Names.{Decl, decls_item}
use Rattle.declarations.specs.Declares.{CountSays}
use Rattle.syntax.specs.Line.{item_in}
use Rattle.syntax.specs.View.{ViewSays}
use Rattle.syntax.specs.declared.view.Item.{Item as View}
use Rattle.symbols.specs.declared.layout.Layout.{Layout}
use Rattle.collector.specs.declared.NoRoom.{NoRoom}
use Rattle.collector.specs.declared.line.Loaded.{Loaded}
use Rattle.collector.specs.declared.entry.Origin.{Origin}
use Rattle.collector.specs.Rows.{Wrote}
use Rattle.collector.specs.Entries.{Declared, decl_need, decls_need}
use Rattle.collector.specs.Says.{plain, line_of, Loads, InTexts, WroteOn, EntrySays}
use Rattle.collector.proofs.Writes.{wrote_none, wrote_on, wrote_wider}
use Rattle.collector.proofs.Heads.{nth_some, plain_decls, item_many}
use Rattle.collector.proofs.Fields.{take_nth}
use Rattle.collector.proofs.Codes.{line_kept, loads_kept}
use Rattle.collector.proofs.Entered.{declared_none, declared_join, declared_in, need_cat}

-- the declarations of the line
abbrev pub said : List ℕ → Loaded → Origin → List Decl
said ws r by = decls_item by.start (item_in (line_of ws r))

-- how many there are
pub many : (ws : List ℕ) (r : Loaded) (by : Origin) → (v : View) (n : ℕ) → ViewSays (line_of ws r) (plain (item_in (line_of ws r))) v → CountSays v n → n ≡ length (said ws r by)
many ws r by v n view count =
    let it = item_in (line_of ws r) in
    count (line_of ws r) (plain it) view ∙ ap length (plain_decls 0 it) ∙ item_many 0 by.start it

-- the first i of them stand
pub record Partly (l : Layout) (ws : List ℕ) (r : Loaded) (by : Origin) (a i to : ℕ) (vs : List ℕ) : Type 0 where
  pub wrote : WroteOn l a to ws vs
  pub ends : to ≡ a + decls_need (take i (said ws r by))
  pub stands : (m : List ℕ) → InTexts l m (line_of ws r) r → Declared m l.texts by.file vs a to i (take i (said ws r by))

pub need_take : (ds : List Decl) (i : ℕ) (x : Decl) → slice_get ds i ≡ Some x → decls_need (take i ds) + decl_need x ≤ decls_need ds
need_take [] i x e = let z : ◌≡◌ {A = ℕ} 0 1 = cc in absurd (omega arith)
need_take (d ∷ ds) zero x e = let s : d ≡ x = cc in omega (arith, ap (λ z. length z.fields) s)
need_take (d ∷ ds) (suc i) x e = omega (arith, need_take ds i x e)

need_more : (ds : List Decl) (i : ℕ) (x : Decl) → slice_get ds i ≡ Some x → decls_need (take (i + 1) ds) ≡ decls_need (take i ds) + decl_need x
need_more ds i x e = ap decls_need (take_nth ds i x e) ∙ need_cat (take i ds) (x ∷ []) ∙ omega arith

module _ (l : Layout) (ws : List ℕ) (r : Loaded) (by : Origin) (a : ℕ) (ld : Loads l ws r) (low : l.index ≤ a) where
  pub partly_none : a ≤ l.work → Partly l ws r by a 0 a ws
  partly_none h = record { wrote = record { onward = omega arith; within = h; wrote = wrote_none a ws }; ends = omega arith; stands = λ m p. declared_none m l.texts by.file ws a (omega (arith, ld.order.row)) }

  -- the line is there still
  pub still : (i to : ℕ) (vs : List ℕ) → Partly l ws r by a i to vs → line_of vs r ≡ line_of ws r
  still i to vs p = line_kept l ws vs r a to (omega (arith, ld.order.slot)) p.wrote.wrote ld

  pub still_loads : (i to : ℕ) (vs : List ℕ) → Partly l ws r by a i to vs → Loads l vs r
  still_loads i to vs p = loads_kept l ws vs r a to (omega (arith, ld.order.slot)) p.wrote.within p.wrote.wrote ld

  pub partly_more : (i to t : ℕ) (vs us : List ℕ) → i < length (said ws r by) → Partly l ws r by a i to vs → EntrySays l vs r by i to us (Ok t) → Partly l ws r by a (i + 1) t us
  partly_more i to t vs us h p s =
      let e = still i to vs p in
      let n = nth_some (said ws r by) i h in
      let x = n.0 in
      let nx : slice_get (said vs r by) i ≡ Some x = ap (λ b. slice_get (decls_item by.start (item_in b)) i) e ∙ n.1 in
      let w = s.0 in
      record {
        wrote = record { onward = omega (arith, w.onward, p.wrote.onward); within = w.within; wrote = wrote_on a to to t ws vs us p.wrote.onward w.onward p.wrote.wrote w.wrote };
        ends = omega (arith, s.1 x nx, p.ends, need_more (said ws r by) i x n.1);
        stands = λ m q.
            let one = s.2 m x (subst (λ b. InTexts l m b r) (sym e) q) nx in
            let was = declared_in m l.texts by.file vs us a to i (take i (said ws r by)) (omega (arith, w.wrote.long)) (λ j y z. w.wrote.before j z) (p.stands m q) in
            subst (Declared m l.texts by.file us a t (i + 1)) (sym (take_nth (said ws r by) i x n.1)) (declared_join m l.texts by.file us a to t i 1 (take i (said ws r by)) (x ∷ []) was one);
      }

  pub partly_stops : (i to : ℕ) (vs us : List ℕ) (z : NoRoom) → Partly l ws r by a i to vs → EntrySays l vs r by i to us (Err z) → Wrote a l.work ws us × (l.work < a + decls_need (said ws r by))
  partly_stops i to vs us z p s =
      let e = still i to vs p in
      let x = s.1.0 in
      let nx : slice_get (said ws r by) i ≡ Some x = ap (λ b. slice_get (decls_item by.start (item_in b)) i) (sym e) ∙ s.1.1 in
      (subst (Wrote a l.work ws) (sym s.0) (wrote_wider a to a l.work ws vs (omega arith) p.wrote.within p.wrote.wrote), omega (arith, s.1.2, p.ends, need_take (said ws r by) i x nx))

  pub partly_all : (i to : ℕ) (vs : List ℕ) → length (said ws r by) ≤ i → Partly l ws r by a i to vs → WroteOn l a to ws vs × ((m : List ℕ) → InTexts l m (line_of ws r) r → Declared m l.texts by.file vs a to i (said ws r by))
  partly_all i to vs h p = (p.wrote, λ m q. subst (Declared m l.texts by.file vs a to i) (take_all i (said ws r by) h) (p.stands m q))
