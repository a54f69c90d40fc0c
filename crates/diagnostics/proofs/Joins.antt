-- Reading and checking put together.
use Rattle.std.proofs.Common.{◌≡◌, ℕ, ◌+◌, ◌*◌, ◌<◌, ◌≤◌, List, length, take, drop, Ok, Err, Result, sym, refl, ap, ◌∙◌, subst, inl, inr, arith}
use Rattle.std.proofs.lemmas.List.{take-take, length-take}
use Rattle.grammar.specs.Code.{item_code}
use Rattle.parser.specs.Rows.{ops, ops_of}
use Rattle.syntax.specs.Line.{item_in, LineSays}
use Rattle.syntax.specs.declared.read.Refusal.{Refusal}
use Rattle.syntax.specs.declared.read.Refusal.TheVariants.{Wrong as WrongAt, NoRoom as Full}
use Rattle.checker.specs.declared.lookup.Want.{Want}
use Rattle.checker.specs.declared.check.Stop.{Stop}
use Rattle.checker.specs.declared.check.Stop.TheVariants.{Needs, NoRoom}
use Rattle.checker.specs.declared.rows.Bounds.{Bounds}
use Rattle.checker.specs.Rows.{Book}
use Rattle.checker.specs.Whole.{CheckSays, LineBy}
use Rattle.diagnostics.specs.declared.NoRoom.{NoRoom as Tightness}
use Rattle.diagnostics.proofs.Lengths.{bad_in}
use Rattle.diagnostics.specs.Diagnose.{WrongSays, CodeSays, DiagnoseSays}

pub shorter : (n m : ℕ) (vs ws : List ℕ) → n ≤ m → take m vs ≡ take m ws → take n vs ≡ take n ws
shorter n m vs ws l e = sym (take-take n m vs l) ∙ ap (take n) e ∙ take-take n m ws l

abbrev bounds : ℕ → ℕ → ℕ → Bounds
bounds len base n = record { len = len; base = base; count = n }

-- a line that wasn't read: it has the code of one that isn't understood, or there were too few words
pub wrong_coded : (f : Refusal) (ws us vs : List ℕ) (len base : ℕ) (r : Result ℕ Tightness) → (len < 4294967000) × (len ≤ base) × (base + (25 * len + 64) ≤ length ws) → length vs ≡ length ws → LineSays ws len base us (Err f) → WrongSays f base vs r → CodeSays ws len base vs r
wrong_coded (WrongAt s) ws us vs len base (Ok n) room l says (one, codes) =
    (omega (arith, one, bad_in ws len s.from s.to says), room.1, omega (arith, room.2), ap (λ m. ops_of (take len ws) base m vs) one ∙ codes (take len ws) ∙ ap item_code (sym says))
wrong_coded (WrongAt s) ws us vs len base (Err e) room l says h = elim h [ ]
wrong_coded Full ws us vs len base (Ok n) room l says h = elim h [ ]
wrong_coded Full ws us vs len base (Err e) room l (inl h) u = inl h
wrong_coded Full ws us vs len base (Err e) room l (inr (inl h)) u = inr (inl h)
wrong_coded Full ws us vs len base (Err e) room l (inr (inr h)) u = inr (inr (omega (arith, h)))

-- what was checked is the line that was read: ws before, us with its code, vs with what is said of it
module _ (g : List ℕ → Book) (ws us vs : List ℕ) (len base n : ℕ) (front : take base us ≡ take base ws) (coded : CodeSays ws len base us (Ok n)) (long : length vs ≡ length us) (kept : take (base + 5 * n) vs ≡ take (base + 5 * n) us) where
  same_line : take len us ≡ take len ws
  same_line = shorter len base us ws coded.1 front

  line_by : (r : Result ℕ Want) → LineBy (g (take base us)) (take len us) (bounds len base n) us vs r → LineBy (g (take base ws)) (take len ws) (bounds len base n) us vs r
  line_by r h = subst (λ f. LineBy (g f) (take len ws) (bounds len base n) us vs r) front (subst (λ l. LineBy (g (take base us)) l (bounds len base n) us vs r) same_line h)

  pub stays : take base vs ≡ take base ws
  stays = shorter base (base + 5 * n) vs us (omega arith) kept ∙ front

  pub diagnosed : (count : ℕ) → CheckSays g (bounds len base n) us vs (Ok count) → DiagnoseSays g ws len base vs (Ok (record { ops = n; at = base + 5 * n; count = count }))
  diagnosed count (few, says) =
      record {
        few = omega (arith, coded.0, coded.1, coded.2, length-take len ws, ap length same_line, length-take len us);
        before = omega (arith, coded.1, length-take len ws);
        behind = refl;
        said = few;
        within = omega (arith, few, coded.0, coded.2, long);
        coded = ap (λ z. ops (take len ws) (drop base z)) kept ∙ coded.3;
        found = λ me here there file_there before agrees. line_by (Ok count) says me here there file_there before (item_in (take len ws)) agrees coded.3;
      }

  pub stopped : (s : Stop) → CheckSays g (bounds len base n) us vs (Err s) → length us ≡ length ws → DiagnoseSays g ws len base vs (Err s)
  stopped (Needs w) says l = λ me here there file_there before agrees. line_by (Err w) says me here there file_there before (item_in (take len ws)) agrees coded.3
  stopped NoRoom (inl h) l = inr (inl h)
  stopped NoRoom (inr h) l = inr (inr (omega (arith, coded.0, h, l)))
