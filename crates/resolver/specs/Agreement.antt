-- What a symbol table tells of names is right, where it is that of texts.
use Rattle.std.specs.Prelude.{◌≡◌, ℕ, List, take, Some, None, Option as Perhaps}
use Rattle.std.proofs.Math.Option.{some, none}
use Rattle.std.specs.List.{slice_get}
use Rattle.base.specs.Base.{Word}
use Rattle.semantics.specs.Names.{File, Texts, decls, in_file, sig}
use Rattle.semantics.specs.Answers.{there, there_file, names_of}
use Rattle.semantics.specs.Walk.{answer, Agrees}
use Rattle.source.specs.Source.{First}
use Rattle.symbols.specs.Table.{decl_at}
use Rattle.symbols.specs.Tabled.{Tabled}
use Rattle.resolver.specs.Resolve.{declared_in, plain_book}

-- What is looked up for a line of the file that is called me, the k-th, is what the texts say of names there; n declarations of that file
-- stand before the line.
abbrev pub PlainAgrees : Type 0
PlainAgrees = (p : Texts) (ws : List ℕ) (x k n : ℕ) (me : Word) (f : File) → Tabled p ws x → First p me k → slice_get p k ≡ Some f →
    Agrees (plain_book ws x k n).knows (answer me (sig p me) (there p) (there_file p) (names_of (take n (decls f))))

-- The first declaration of a name in a file, by its handle.
abbrev pub FoundIn : List ℕ → Texts → Word → Word → Perhaps ℕ → Type 0
FoundIn ws p f n None = in_file p f n ≡ none
FoundIn ws p f n (Some d) = in_file p f n ≡ some (record { file = f; decl1 = decl_at ws d })

abbrev pub DeclaredAgrees : Type 0
DeclaredAgrees = (p : Texts) (ws : List ℕ) (x : ℕ) (f n : Word) → Tabled p ws x → FoundIn ws p f n (declared_in ws x f n)
