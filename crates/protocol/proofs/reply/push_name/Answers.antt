use Rattle.std.proofs.Common.{append_assoc, rules}
use Rattle.std.proofs.lemmas.Iterator.{YieldsList-from_map, YieldsList-from_slice}
use Rattle.std.proofs.lemmas.Iterator.Adapters.{items_from_extend}
use Rattle.std.proofs.lemmas.Iterator.Consumers.{YieldsList-at}
use Rattle.protocol.specs.Lines.{byte_of}
use Rattle.protocol.proofs.reply.push_name.Goals as goal

pub returns : goal.returns
returns c = let h = items_from_extend c.extend.result c.extend.ensures.ran (YieldsList-from_map _ byte_of (YieldsList-at c.map.ensures.source (YieldsList-from_slice c.args.words.now cc)) c.map.ensures.closure (λ x r q k. search rules)) in search (rules, append_assoc)
