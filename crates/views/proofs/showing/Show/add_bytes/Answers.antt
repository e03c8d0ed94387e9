use Rattle.views.proofs.Adds.{leaf_adds}
use Rattle.views.proofs.Compared.{read_fault}
use Rattle.views.proofs.Held.{read_leaf}
use Rattle.views.proofs.showing.Show.add_bytes.Goals as goal

pub returns-in_ok-add_leaf-in-Ok-clause-leaf : goal.returns-in_ok-add_leaf-in-Ok-clause-leaf
returns-in_ok-add_leaf-in-Ok-clause-leaf c =
    let (contents, fits, holds) = read_leaf c.args.bytes.now c.in-Ok.leaf c.in-Ok.ensures.fits in (contents, fits)

pub returns-in_ok-add_leaf-in-Ok-clause-added : goal.returns-in_ok-add_leaf-in-Ok-clause-added
returns-in_ok-add_leaf-in-Ok-clause-added c =
    leaf_adds c.args.name.now c.args.bytes.now c.args.self.now c.add_leaf.new.self c.in-Ok.leaf c.in-Ok.ensures.fits
    c.in_ok-add_leaf-in-Ok.ensures.added

pub returns-in_ok-add_damage-in-Err-clause-leaf : goal.returns-in_ok-add_damage-in-Err-clause-leaf
returns-in_ok-add_damage-in-Err-clause-leaf c =
    let fault = c.in-Err.fault in (fault.refusal, fault.at, read_fault c.args.bytes.now fault c.in-Err.ensures.fits)
