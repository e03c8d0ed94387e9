use Rattle.std.proofs.Common.{Some, refl}
use Rattle.std.proofs.lemmas.Result.{IfErr-weaker, IfOk-weaker}
use Rattle.views.proofs.Compared.{leaves_differ, read_fault, second_damaged}
use Rattle.views.proofs.Held.{read_leaf}
use Rattle.views.proofs.comparing.compare_bytes.Goals as goal

pub returns-in-Ok-read-clause-text : goal.returns-in-Ok-read-clause-text
returns-in-Ok-read-clause-text c =
    let (x, fits, holds) = read_leaf c.args.first.now c.in-Ok.one c.in-Ok.ensures.fits in
    let (d, fits_other, holds_other) = read_leaf c.args.second.now c.in-Ok-read.other c.in-Ok-read.ensures.fits in
    IfOk-weaker c.compare_leaves.result _ _ (λ text told. record {
      one = c.args.first.now;
      other = c.args.second.now;
      all_one = refl;
      all_other = refl;
      contents_one = x;
      contents_other = d;
      fits_one = fits;
      fits_other = fits_other;
      related = told x d holds holds_other;
    }) c.compare_leaves.ensures.text

pub returns-in-Ok-read-clause-failed : goal.returns-in-Ok-read-clause-failed
returns-in-Ok-read-clause-failed c =
    let (x, fits, holds) = read_leaf c.args.first.now c.in-Ok.one c.in-Ok.ensures.fits in
    let (d, fits_other, holds_other) = read_leaf c.args.second.now c.in-Ok-read.other c.in-Ok-read.ensures.fits in
    IfErr-weaker c.compare_leaves.result _ _
    (λ t told. leaves_differ c.args.first_name.now c.args.second_name.now c.args.first.now c.args.second.now x d t
    fits fits_other (told x d holds holds_other)) c.compare_leaves.ensures.failed

pub returns-in-Err-read-clause-failed : goal.returns-in-Err-read-clause-failed
returns-in-Err-read-clause-failed c =
    let (x, fits, holds) = read_leaf c.args.first.now c.in-Ok.one c.in-Ok.ensures.fits in
    let fault = c.in-Err-read.fault in
    second_damaged c.args.first_name.now c.args.second_name.now
    (Some c.args.first.now) c.args.second.now fault c.damaged.result
    (record { bytes = c.args.first.now; all = refl; leaf = (x, fits) })
    (read_fault c.args.second.now fault c.in-Err-read.ensures.fits) c.damaged.ensures
