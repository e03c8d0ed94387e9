use Rattle.std.proofs.Common.{rules}
use Rattle.std.proofs.lemmas.Result.{IfOk-weaker}
use Rattle.views.proofs.Puts.{put_copied, put_fits}
use Rattle.views.proofs.counted.leaf_of.Goals as goal

pub filed_in-requires : goal.filed_in-requires
filed_in-requires c =
    let (contents, survey, put) = c.file-filed.ensures in
    put_fits contents _ c.file-filed.new.buffer c.file-filed.result survey.lawful (search rules) (search rules) put

pub returns : goal.returns
returns c =
    let (contents, survey, put) = c.file-filed.ensures in
    let fits = put_fits contents _ c.file-filed.new.buffer c.file-filed.result survey.lawful (search rules)
    (search rules) put in
    IfOk-weaker c.filed_in.result _ _ (λ bytes copied. record {
      contents = contents;
      survey = survey;
      encoded = put_copied contents _ c.file-filed.new.buffer bytes.items c.file-filed.result fits put copied;
    }) c.filed_in.ensures
