-- What two lookups know: of every name that it means nothing, and nothing yet.
use Rattle.std.specs.Prelude.{false, []}
use Rattle.std.proofs.Math.Option.{none}
use Rattle.semantics.specs.Names.{s_unknown}
use Rattle.semantics.specs.Walk.{Query, q_here, q_there, q_file, q_before, k_sig, k_yes, Fetch, lacks, has}
use Rattle.semantics.specs.declared.sort.Sort.TheVariants.{Kind}
use Rattle.checker.specs.Rows.{Book, Origin, Declared}

abbrev pub nowhere : Origin
nowhere = record { file = []; name = [] }

abbrev pub undeclared : Declared
undeclared = record { file = []; name = []; sort = Kind; slots = []; result = none }

abbrev pub knows_nothing_is : Query → Fetch Query
knows_nothing_is (q_here w) = has (k_sig s_unknown)
knows_nothing_is (q_there f n) = has (k_sig s_unknown)
knows_nothing_is (q_file w) = has (k_yes false)
knows_nothing_is (q_before w) = has (k_yes false)

abbrev pub empty_book : Book
empty_book = record { types = λ n. nowhere; sigs = λ n. undeclared; knows = knows_nothing_is }

abbrev pub blank_book : Book
blank_book = record { types = λ n. nowhere; sigs = λ n. undeclared; knows = lacks }
