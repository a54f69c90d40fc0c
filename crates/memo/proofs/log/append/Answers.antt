-- What is proved by hand of append.
use Rattle.std.proofs.Common.{◌≡◌, ℕ, ◌+◌, ◌-◌, ◌≤◌, length, get_or, sym, ap, ◌∙◌, subst, arith}
use Rattle.std.specs.Prelude.{Ok}
use Rattle.memo.specs.Record.{made, gots_of, packed, puts}
use Rattle.memo.specs.Log.{Fits, pointed, log}
use Rattle.memo.specs.Says.{Keeps, StoreSays}
use Rattle.memo.proofs.Places.{deep_long}
use Rattle.memo.proofs.Appends.{append_fits, append_says, append_keeps, append_buckets, refused, spare_is, few}
use Rattle.memo.proofs.log.append.Goals as goal

pub returns-then-spare-size-clause-says : goal.returns-then-spare-size-clause-says
returns-then-spare-size-clause-says c =
    let p = c.args.entry in
    let e = c.size-size.ensures in
    let s = c.spare.ensures in
    let t = c.if-spare-size.true in
    refused _ c.args.words.now p.key p.ans.now p.count p.keys.now p.row.now c.requires.asked.0 c.requires.asked.1 (omega arith)

pub overflow_sub-p-2 : goal.overflow_sub-p-2
overflow_sub-p-2 c = let s = spare_is c.args.words.now in let e = c.spare.ensures in let r = c.requires.fits.room in omega arith

pub write-requires : goal.write-requires
write-requires c =
    let s = spare_is c.args.words.now in
    let e = c.spare.ensures in
    let z = c.size-size.ensures in
    let r = c.requires.fits.room in
    (omega arith, c.requires.small.0, c.requires.small.3)

pub overflow_cast-depth-2 : goal.overflow_cast-depth-2
overflow_cast-depth-2 c = let s = spare_is c.args.words.now in let e = c.spare.ensures in let r = c.requires.fits.room in let l = c.requires.small.0 in omega arith

pub overflow_add-records : goal.overflow_add-records
overflow_add-records c =
    let f = c.requires.fits in
    let a = few (get_or c.args.words.now 2 0) (get_or c.args.words.now 1 0) (log c.args.words.now) f.logged in
    let r = f.room in
    let b = deep_long c.args.words.now (get_or c.args.words.now 0 0) (omega arith) in
    let s = c.requires.small.0 in
    omega arith

pub returns : goal.returns
returns c =
    let ws = c.args.words.now in
    let k = c.args.entry.key in
    let ans = c.args.entry.ans.now in
    let n = c.args.entry.count in
    let keys = c.args.entry.keys.now in
    let row = c.args.entry.row.now in
    let kl = c.requires.asked.0 in
    let rl = c.requires.asked.1 in
    let b = c.bucket_of-b.result in
    let eb = c.bucket_of-b.ensures.is in
    let part = packed k (get_or ws (3 + b) 0) ans n keys row in
    let at = λ (z : ℕ). pointed (puts (length ws - get_or ws 0 0 - z) part ws) b (get_or ws 0 0 + z) (get_or ws 0 0 + z) (get_or ws 1 0 + 1) in
    let e : c.point.new.words ≡ at (7 + (length ans + (length keys + length row))) =
    c.point.ensures ∙ ap (λ u. pointed u b (get_or ws 0 0 + c.size-size.result) (get_or ws 0 0 + c.size-size.result) (get_or ws 1 0 + 1)) c.write.ensures ∙ ap at c.size-size.ensures in
    let size = c.size-size.ensures in
    let sp = spare_is ws in
    let s = c.spare.ensures in
    let few = c.if-spare-size.false in
    let fit : 7 + (length ans + (length keys + length row)) ≤ length ws - (3 + get_or ws 2 0 + get_or ws 0 0) = omega arith in
    let f = c.requires.fits in
    record {
      fits = subst Fits (sym e) (append_fits ws f k ans n keys row kl rl b eb fit);
      says = subst (λ v. StoreSays (made k ans (gots_of n keys row)) ws v (Ok tt)) (sym e) (append_says ws f k ans n keys row kl rl b eb fit);
      keeps = subst (Keeps ws) (sym e) (append_keeps ws f k ans n keys row kl rl b eb fit);
      buckets = ap (λ v. get_or v 2 0) e ∙ append_buckets ws f k ans n keys row kl rl b eb fit;
    }
