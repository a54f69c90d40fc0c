-- The files that the lines of a file use, line after line.
use Rattle.std.proofs.Common.{◌≡◌, ℕ, ◌+◌, ◌<◌, ◌≤◌, ◌⊎◌, List, [], ◌∷◌, length, take, Some, Ok, Err, Result, sym, ap, ◌∙◌, subst, inl, inr, arith}
use Rattle.std.specs.List.{slice_get}
use Rattle.std.proofs.lemmas.List.{take_all}
use Rattle.base.specs.Base.{Word}
use Rattle.lexer.specs.Tokens.{lines}
use Rattle.semantics.specs.Names.{File, Texts, uses_item, uses_lines, used}
use Rattle.semantics.specs.Read.{with_used}
use Rattle.syntax.specs.Line.{item_in}
use Rattle.symbols.specs.declared.layout.Layout.{Layout}
use Rattle.collector.specs.declared.NoRoom.{NoRoom}
use Rattle.collector.specs.declared.line.Loaded.{Loaded}
use Rattle.symbols.specs.Rows.{InOrder, texts_in}
use Rattle.collector.specs.Rows.{Kept}
use Rattle.collector.specs.Entries.{Using, uses_need}
use Rattle.collector.specs.Says.{line_of, LineIn, LineTrouble, LoadSays, WentOn, PutUseSays, UseShort, NthUseSays, UsesSays}
use Rattle.collector.proofs.Writes.{kept_none, kept_wrote, kept_on, kept_wider, kept_any, order_kept, texts_kept}
use Rattle.collector.proofs.Fields.{take_nth}
use Rattle.collector.proofs.Used.{using_none, using_in, uses_more, need_upto}

-- what a line uses
module _ (p : Texts) (l : Layout) (file i from to : ℕ) (ws us : List ℕ) (o : InOrder l ws) (low : l.index ≤ from) (on : from ≤ to) (high : to ≤ l.work) where
  pub use_unread : (e : NoRoom) → LoadSays p l file i ws us (Err e) → NthUseSays p l file i ws from to us (Err e)
  use_unread e s = (kept_any l l.index to l.work ws us high (omega (arith, o.slot, o.table)) s.0, inl s.1)

  module _ (r : Loaded) (d : LoadSays p l file i ws us (Ok r)) where
    first : Kept l to to ws us
    first = kept_any l l.index to to ws us high (omega (arith, o.slot)) d.0

    using_loaded : (ns : List Word) → Using p ws from to ns → Using p us from to ns
    using_loaded ns u = using_in p ws us from to ns (omega (arith, first.long)) (λ j x y. first.before j (omega (arith, o.slot)) y) u

    said_is : (x : File) (n : LineIn x l i ws us r) → uses_item (item_in (line_of us r)) ≡ uses_item (item_in n.line.bytes)
    said_is x n = ap (λ b. uses_item (item_in b)) n.bytes_are

    pub use_none : uses_item (item_in (line_of us r)) ≡ [] → NthUseSays p l file i ws from to us (Ok to)
    use_none e = (
      record { onward = omega arith; within = high; kept = first },
      λ x ns f u. let n = d.3 x f in record { line = n.line; is_line = n.is_line; stands = subst (λ vs. Using p us from to (with_used x.name ns vs)) (sym e ∙ said_is x n) (using_loaded ns u) },
    )

    pub use_some : (w : Word) (vs : List ℕ) (z : Result ℕ NoRoom) → uses_item (item_in (line_of us r)) ≡ w ∷ [] → PutUseSays p l file w us from to vs z → NthUseSays p l file i ws from to vs z
    use_some w vs (Ok t) e s = (
      record { onward = s.0.onward; within = s.0.within; kept = kept_on l to to to t ws us vs (omega arith) s.0.onward first (kept_wrote l to t us vs s.0.wrote) },
      λ x ns f u. let n = d.3 x f in record { line = n.line; is_line = n.is_line; stands = subst (λ ys. Using p vs from t (with_used x.name ns ys)) (sym e ∙ said_is x n) (s.1 x ns f (using_loaded ns u)) },
    )
    use_some w vs (Err y) e s = (
      subst (Kept l to l.work ws) (sym s.0) (kept_wider l to to to l.work ws us (omega arith) high first),
      inr (λ x ns f u. let n = d.3 x f in (n.line, n.is_line, subst (λ ys. l.work < from + uses_need p (with_used x.name ns ys)) (sym e ∙ said_is x n) (s.1 x ns f (using_loaded ns u)))),
    )

-- what the lines before the i-th use is listed
pub record Listing (p : Texts) (l : Layout) (file : ℕ) (ws : List ℕ) (a i to : ℕ) (vs : List ℕ) : Type 0 where
  pub went : WentOn l a to ws vs
  pub stands : (x : File) → slice_get p file ≡ Some x → Using p vs a to (uses_lines x.name (take i (lines x.text)) [])

module _ (p : Texts) (l : Layout) (file : ℕ) (ws : List ℕ) (a : ℕ) (o : InOrder l ws) (low : l.index ≤ a) where
  pub listing_none : a ≤ l.work → Listing p l file ws a 0 a ws
  listing_none h = record { went = record { onward = omega arith; within = h; kept = kept_none l a ws }; stands = λ x e. using_none p ws a (omega (arith, o.row)) }

  module _ (i to : ℕ) (vs : List ℕ) (d : Listing p l file ws a i to vs) where
    pub listing_order : InOrder l vs
    listing_order = order_kept l ws vs d.went.kept.long o

    pub listing_texts : texts_in l vs ≡ texts_in l ws
    listing_texts = texts_kept l a to ws vs o.slot low d.went.kept

    pub listing_more : (us : List ℕ) (t : ℕ) → NthUseSays p l file i vs a to us (Ok t) → Listing p l file ws a (i + 1) t us
    listing_more us t n = record {
      went = record { onward = omega (arith, d.went.onward, n.0.onward); within = n.0.within; kept = kept_on l a to to t ws vs us d.went.onward n.0.onward d.went.kept n.0.kept };
      stands = λ x e.
          let k = n.1 x (uses_lines x.name (take i (lines x.text)) []) e (d.stands x e) in
          subst (Using p us a t) (sym (ap (λ ns. uses_lines x.name ns []) (take_nth (lines x.text) i k.line k.is_line) ∙ uses_more x.name (take i (lines x.text)) k.line [])) k.stands;
    }

    pub listing_stops : (us : List ℕ) (z : NoRoom) → NthUseSays p l file i vs a to us (Err z) → UsesSays p l file ws a us (Err z)
    listing_stops us z n = (kept_on l a to to l.work ws vs us d.went.onward d.went.within d.went.kept n.0, why n.1)
      where
        why : LineTrouble p l (length vs) ⊎ ((x : File) (ns : List Word) → slice_get p file ≡ Some x → Using p vs a to ns → UseShort p x l i a ns) → LineTrouble p l (length ws) ⊎ ((x : File) → slice_get p file ≡ Some x → l.work < a + uses_need p (used x))
        why (inl t) = inl (subst (LineTrouble p l) d.went.kept.long t)
        why (inr f) = inr (λ x e. let s = f x (uses_lines x.name (take i (lines x.text)) []) e (d.stands x e) in omega (arith, s.2, need_upto p x.name (lines x.text) i s.0 [] s.1))

    pub listing_all : ((x : File) → slice_get p file ≡ Some x → length (lines x.text) ≤ i) → UsesSays p l file ws a vs (Ok to)
    listing_all h = (d.went, λ x e. subst (λ ns. Using p vs a to (uses_lines x.name ns [])) (take_all i (lines x.text) (h x e)) (d.stands x e))
