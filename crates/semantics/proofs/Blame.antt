-- Another type is wanted only of what has one; and the types noted are those of the parts.
use mathlib.Core.Path.{◌≡◌, refl}
use mathlib.Core.Bool.{Bool}
use mathlib.Core.List.{List}
use native.Mathlib.Omega.{arith}
use Rattle.base.specs.Base.{Word}
use Rattle.grammar.specs.Grammar.{E, from_of, to_of, Item}
use Rattle.semantics.specs.Names.{Sig}
use Rattle.semantics.specs.Check.{Fault, Typed, Link, Local, Look, check, of_item}
use Rattle.semantics.specs.Theorems.{Each, One, Part, parts, item_parts, Blamed, Notes, UntypedUnblamed, TypesMean, type_words}
use Rattle.semantics.proofs.Lists.{each_of, one_of}
use Rattle.semantics.proofs.Gather.{Says, Node, Faulty, check_says, item_says, item_tokens, TypeLinked}

module _ (here : Look) (there : Word → Word → Sig) where
  -- fault 5 stands at one of these parts, which has a type
  abbrev F : List Part → Fault → Type 0
  F ps f = f.sort ≡ 5 → One (Blamed here there f) ps

  abbrev T : List Part → Typed → Type 0
  T ps t = One (Notes here there t) ps

  abbrev L : Link → Type 0
  L k = Unit {0}

  nodes : (ps : List Part) → Each (Node (F ps) (T ps) L here there) ps
  nodes ps = each_of (Node (F ps) (T ps) L here there) ps (λ p a. record {
    blamed = λ u q s. one_of (Blamed here there (record { from = from_of p.expr; to = to_of p.expr; sort = 5 })) p ps a (u, q, refl, refl);
    token = λ t e k ne s. absurd (ne.0 s);
    noted = λ u q. one_of (Notes here there (record { from = from_of p.expr; to = to_of p.expr; ty = u })) p ps a (q, refl, refl);
    linked = λ t e k o l. tt;
  })

  expr_says : (g : List Local) (e : E) → Says (F (parts here there g e)) (T (parts here there g e)) L (check here there g e)
  expr_says g e = check_says (F (parts here there g e)) (T (parts here there g e)) L here there g e (nodes (parts here there g e))

  line_says : (me : Word) (file_there : Word → Bool) (before : List Word) (it : Item) → Says (F (item_parts here there it)) (T (item_parts here there it)) L (of_item me here there file_there before it)
  line_says me file_there before it =
      let ps = item_parts here there it in
      item_says (F ps) (T ps) L here there me file_there before it (record {
        tokens = each_of (Faulty (F ps) (T ps) L) (item_tokens it) (λ t a k ne s. absurd (ne.0 s));
        bad = λ a b e s. absurd (omega arith);
        uses = λ t e y n. tt;
        types = each_of (TypeLinked (F ps) (T ps) L here there) (type_words it) (λ t a y n k o l. tt);
        nodes = nodes ps;
      })

pub untyped_unblamed : UntypedUnblamed
untyped_unblamed = (λ here there g e. (expr_says here there g e).faults, λ me here there file_there before it. (line_says here there me file_there before it).faults)

pub types_mean : TypesMean
types_mean me here there file_there before it = (line_says here there me file_there before it).types
