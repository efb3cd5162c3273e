use Rattle.std.proofs.Common.{◌≡◌, ◌||◌, ap, sym, ◌∙◌}
use Rattle.std.specs.Prelude.{not}
use Rattle.std.proofs.lemmas.Bool.{cond-true, cond-false}
use Rattle.strm_data.specs.declared.msg_type.MsgType.{MsgType}
use Rattle.strm_data.specs.declared.msg_type.MsgType.TheVariants.{MData}
use Rattle.strm_data.specs.DataStore.{data_block_at}
use Rattle.strm_data.specs.MsgType.{same_kind}
use Rattle.strm_mblk.proofs.blocks.reading.length_of.Goals as goal
use Rattle.strm_mblk.proofs.blocks.reading.length_of.Goals.{After-eq-is_data}

-- what was compared is the type of the data block
compared : (c : After-eq-is_data) → c.eq-is_data.result ≡ same_kind (data_block_at c.args.stored.now.store c.args.fields.data_number).kind MData
unfolding same_kind
compared c = c.eq-is_data.ensures ∙ ap (λ (k : MsgType). same_kind k MData) c.kind.ensures

pub returns-then-is_data : goal.returns-then-is_data
returns-then-is_data c =
    λ n. sym (cond-true _ _ _ (ap (λ b. b || not c.args.data_alone) (sym (compared (goal.at.returns-then-is_data c).After-eq-is_data) ∙ c.if-is_data.true)))

pub returns-else-is_data : goal.returns-else-is_data
returns-else-is_data c =
    λ n. sym (cond-false _ _ _ (ap (λ b. b || not c.args.data_alone) (sym (compared (goal.at.returns-else-is_data c).After-eq-is_data) ∙ c.if-is_data.false) ∙ ap not c.if-not-data_alone.false))
