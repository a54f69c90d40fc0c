-- The keys of questions as the row of words in which they are handed over, three words each.
use Rattle.std.specs.Prelude.{ℕ, List, [], ◌∷◌}
use Rattle.engine.specs.Engine.{Got}

abbrev pub keys : List Got → List ℕ
keys [] = []
keys (g ∷ gs) = g.key.kind ∷ g.key.a ∷ g.key.b ∷ keys gs
