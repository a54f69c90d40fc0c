-- Whether words are a memo, as a test: what Fits says (proofs/Tests). And whether one is fit for bringings.
use Rattle.std.specs.Prelude.{ℕ, zero, suc, ◌+◌, ◌*◌, Bool, ◌&&◌, List, length, take, drop, ◌==◌, nat_le, slice_index}
use Rattle.base.specs.Base.{same}
use Rattle.memo.specs.Record.{key_of, row_long, row_in, size, older}
use Rattle.memo.specs.Log.{bucket, heads, log}

abbrev pub one_fits : ℕ → ℕ → List ℕ → Bool
one_fits b n ws = nat_le (size ws) (length ws) && (row_long (slice_index ws 5) (row_in ws) == slice_index ws 6 && slice_index ws 3 == slice_index (heads b n (older ws)) (bucket (key_of ws) b))

abbrev pub log_fits : ℕ → ℕ → List ℕ → Bool
log_fits b zero ws = length ws == 0
log_fits b (suc n) ws = one_fits b n ws && log_fits b n (older ws)

unfoldable pub memo_fits : List ℕ → Bool
memo_fits ws = nat_le 1 (slice_index ws 2) && (nat_le (3 + slice_index ws 2 + slice_index ws 0) (length ws) && (same (take (slice_index ws 2) (drop 3 ws)) (heads (slice_index ws 2) (slice_index ws 1) (log ws)) && log_fits (slice_index ws 2) (slice_index ws 1) (log ws)))

-- a memo, with no more than a quarter of its words for buckets: so enough of its room is for records
unfoldable pub memo_ready : List ℕ → Bool
memo_ready ws = nat_le (4 * slice_index ws 2) (length ws) && memo_fits ws
