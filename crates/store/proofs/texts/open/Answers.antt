-- What is proved by hand of open.
use Rattle.std.proofs.lemmas.Result.{err_from_is_err_and}
use Rattle.store.proofs.Tables.{stopped, ready, put_there, put_last}
use Rattle.store.proofs.texts.open.Goals as goal

pub returns-in_err-n-clause-filed : goal.returns-in_err-n-clause-filed
returns-in_err-n-clause-filed c = (stopped _ _ _ _ _ c.args.text.now _ _ _ c.requires c.in_ok-f.ensures c.in_err-n.ensures.0).0

pub returns-in_err-n-clause-says : goal.returns-in_err-n-clause-says
returns-in_err-n-clause-says c =
    let p = err_from_is_err_and c.from_residual-in_err-n.result c.from_residual-in_err-n.ensures.1 in
    rw p.1 (stopped _ _ _ _ _ c.args.text.now _ _ _ c.requires c.in_ok-f.ensures c.in_err-n.ensures.0).1

pub file_named-requires : goal.file_named-requires
file_named-requires c = (ready _ _ _ _ _ _ _ _ _ c.requires c.in_ok-f.ensures _ c.in_ok-n.ensures.1).filed

pub replace_file-requires : goal.replace_file-requires
replace_file-requires c = let x = ready _ _ _ _ _ _ _ _ _ c.requires c.in_ok-f.ensures _ c.in_ok-n.ensures.1 in (x.filed, (c.in-Some.ensures.0, (x.live, x.all_live)))

pub push_file-requires : goal.push_file-requires
push_file-requires c = let x = ready _ _ _ _ _ _ _ _ _ c.requires c.in_ok-f.ensures _ c.in_ok-n.ensures.1 in (x.filed, (x.live, x.all_live))

pub returns-in-Some-clause-says : goal.returns-in-Some-clause-says
returns-in-Some-clause-says c = put_there _ _ _ _ _ _ _ _ _ (ready _ _ _ _ _ _ _ _ _ c.requires c.in_ok-f.ensures _ c.in_ok-n.ensures.1) c.replace_file.new.files c.replace_file.new.words _ c.in-Some.ensures c.replace_file.result c.replace_file.ensures.says

pub returns-in-None-clause-says : goal.returns-in-None-clause-says
returns-in-None-clause-says c = put_last _ _ _ _ _ _ _ _ _ (ready _ _ _ _ _ _ _ _ _ c.requires c.in_ok-f.ensures _ c.in_ok-n.ensures.1) c.push_file.new.files c.push_file.new.words c.in-None.ensures c.push_file.result c.push_file.ensures.says
