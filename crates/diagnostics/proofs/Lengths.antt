-- A line has no more operations than bytes, so that the words wanted go by its length.
use Rattle.std.proofs.Common.{◌≡◌, ℕ, ◌+◌, ◌*◌, ◌≤◌, List, length, take, drop, ap, arith}
use Rattle.std.proofs.lemmas.List.{length-take, length-drop}
use Rattle.lexer.specs.Tokens.{toks, gap}
use Rattle.grammar.specs.Grammar.{i_bad}
use Rattle.grammar.specs.Code.{item_code}
use Rattle.parser.specs.Rows.{ops_of}
use Rattle.syntax.specs.Line.{item_in}
use Rattle.semantics.proofs.Bytes.{toks_few}
use Rattle.semantics.proofs.Pieces.{line_few}
use Rattle.declarations.proofs.Found.{ops_length}

-- no more operations than bytes
pub code_few : (line : List ℕ) → length (item_code (item_in line)) ≤ length line
code_few line = omega (arith, line_few (toks gap 0 line), toks_few line gap 0)

pub few_ops : (line : List ℕ) (base n : ℕ) (vs : List ℕ) → base + (25 * length line + 64) ≤ length vs → ops_of line base n vs ≡ item_code (item_in line) → n ≤ length line
few_ops line base n vs h e =
    let code = drop base (take (base + 5 * n) vs) in
    let a = ops_length line code in
    let b = length-drop base (take (base + 5 * n) vs) in
    let d = length-take (base + 5 * n) vs in
    let f = ap length e in
    omega (arith, a, b, d, f, code_few line)

-- a line that isn't understood has a byte
pub bad_long : (line : List ℕ) (a b : ℕ) → item_in line ≡ i_bad a b → 1 ≤ length line
bad_long line a b e = omega (arith, ap (λ i. length (item_code i)) e, code_few line)

-- the same of the line in the first words of a row
pub few_in : (ws : List ℕ) (len base n : ℕ) (vs : List ℕ) → len ≤ base → base + (25 * len + 64) ≤ length vs → ops_of (take len ws) base n vs ≡ item_code (item_in (take len ws)) → n ≤ len
few_in ws len base n vs l h e =
    let t = length-take len ws in
    let k = few_ops (take len ws) base n vs (omega arith) e in
    omega arith

pub bad_in : (ws : List ℕ) (len a b : ℕ) → item_in (take len ws) ≡ i_bad a b → 1 ≤ len
bad_in ws len a b e = omega (arith, length-take len ws, bad_long (take len ws) a b e)
