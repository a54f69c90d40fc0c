-- What is proved by hand of move_file.
use Rattle.std.proofs.Common.{ℕ, List, get_or, sym, subst}
use Rattle.interner.specs.Index.{Live}
use Rattle.interner.specs.Lines.{Every}
use Rattle.store.specs.Files.{Fits, PushSays}
use Rattle.store.specs.Reclaim.{AllKept}
use Rattle.store.proofs.Keeps.{can_push, moves}
use Rattle.store.proofs.reclaim.move_file.Goals as goal

pub push_file-requires : goal.push_file-requires
push_file-requires c = let e = c.bytes_from-ns.ensures in let a = subst (λ (x : List ℕ). AllKept c.args.from.sizes.buckets c.args.from.sizes.cap c.args.from.words.now c.keep_number.new.row c.keep_numbers.new.row x) e c.in_ok-keep_numbers.ensures in subst (λ (x : List ℕ). Fits c.args.from.sizes.buckets c.args.from.sizes.cap c.args.table.now c.keep_numbers.new.row × (Live c.args.from.sizes.buckets c.keep_numbers.new.row (get_or c.args.from.words.now c.args.p 0) × Every (Live c.args.from.sizes.buckets c.keep_numbers.new.row) x)) (sym e) (can_push _ _ _ _ _ _ _ _ c.requires.1.0 c.requires.1.1.1 c.in_ok-keep_number.ensures a)

pub returns : goal.returns
returns c = let e = c.bytes_from-ns.ensures in let a = subst (λ (x : List ℕ). AllKept c.args.from.sizes.buckets c.args.from.sizes.cap c.args.from.words.now c.keep_number.new.row c.keep_numbers.new.row x) e c.in_ok-keep_numbers.ensures in moves _ _ _ _ _ _ _ _ c.requires.1.0 c.requires.1.1.1 c.in_ok-keep_number.ensures a c.push_file.new.files c.push_file.new.words c.push_file.ensures.filed c.push_file.ensures.more c.push_file.result (subst (λ (x : List ℕ). PushSays c.args.from.sizes.buckets c.args.table.now c.keep_numbers.new.row (get_or c.args.from.words.now c.args.p 0) x c.push_file.new.files c.push_file.new.words c.push_file.result) e c.push_file.ensures.says)
