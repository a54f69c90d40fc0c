-- What is proved by hand of close.
use Rattle.std.proofs.Common.{◌≡◌, ℕ, get_or, sym, ap, subst, arith}
use Rattle.base.specs.Base.{is_some}
use Rattle.interner.specs.Places.{entries, others}
use Rattle.interner.proofs.Places.{place_in}
use Rattle.interner.proofs.Puts.{finds_none}
use Rattle.store.proofs.Tables.{file_ok, in_words}
use Rattle.store.proofs.Drops.{drops_others, left_fit}
use Rattle.store.proofs.texts.close.Goals as goal

pub returns-in_default-clause-says : goal.returns-in_default-clause-says
returns-in_default-clause-says c = (sym (ap is_some c.in_default.ensures), sym (finds_none _ _ c.in_default.ensures))

pub bounds-words-record_of : goal.bounds-words-record_of
bounds-words-record_of c = omega (arith, c.record_of.ensures, place_in _ _ c.in-Some.k (in_words _ _ _ _ c.requires) c.in-Some.ensures.0)

pub returns-clause-filed : goal.returns-clause-filed
returns-clause-filed c = left_fit _ _ _ _ _ _ c.requires c.drop_named.ensures

pub returns-clause-says : goal.returns-clause-says
returns-clause-says c =
    let l = subst (λ (p : ℕ). entries c.drop_named.new.table ≡ others c.args.words.now (get_or c.args.words.now p 0) (entries c.args.files.now)) c.record_of.ensures c.drop_named.ensures.left in
    (sym (ap is_some c.in-Some.ensures.2), drops_others _ _ _ _ c.requires _ _ (file_ok _ _ _ _ _ c.requires c.in-Some.ensures.0).name c.in-Some.ensures.1 c.drop_named.new.table l)
