-- `count` meets its contract: what the chain counts is what counting by index counts. Assumes nothing.
use Rattle.std.proofs.Common.{rules}
use Rattle.decryption.proofs.ShareCode.{shares_counted}
use Rattle.decryption.proofs.count.Goals as goal

pub returns : goal.returns
returns c = search (rules, shares_counted)
