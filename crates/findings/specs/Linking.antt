-- Where a name at a place leads, in words.
use Rattle.std.specs.Prelude.{◌≡◌, ℕ, List, [], ◌∷◌, ◌++◌, Some, None, Option as Perhaps}
use Rattle.std.proofs.Math.Option.{Option, some, none}
use Rattle.parser.specs.Rows.{span_of}
use Rattle.semantics.specs.Check.{Link, links_in}
use Rattle.semantics.specs.Answers.{link_at}
use Rattle.checker.specs.Rows.{Book, link_is, event_is, said_in}
use Rattle.checker.specs.declared.said.Event.{Event}
use Rattle.findings.specs.declared.links.Linked.{Linked}

-- the definition's link from a part of a line
abbrev pub link_from : Book → List ℕ → Linked → Link
link_from k line x = link_is k (span_of line x.span) x.link

abbrev pub linked_is : Book → List ℕ → Perhaps Linked → Option Link
linked_is k line None = none
linked_is k line (Some x) = some (link_from k line x)

-- of n things said: the definition's link at a place, whatever a lookup's numbers mean
abbrev pub IsLinkAt : List ℕ → ℕ → ℕ → ℕ → Perhaps Linked → Type 0
IsLinkAt vs at1 n place r = (k : Book) (line : List ℕ) → link_at place (said_in k line at1 n vs).links ≡ linked_is k line r

-- the links of things said
abbrev pub links_of : Book → List ℕ → List Event → List Link
links_of k line [] = []
links_of k line (e ∷ es) = links_in (event_is k line e) ++ links_of k line es

-- it is among those that are left
abbrev pub StillAhead : List ℕ → ℕ → ℕ → ℕ → List Event → Type 0
StillAhead vs at1 n place es = (k : Book) (line : List ℕ) → link_at place (said_in k line at1 n vs).links ≡ link_at place (links_of k line es)
