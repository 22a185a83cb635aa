-- `board_block::put_signal` meets its contract: a delivery word stored by itself. Assumes nothing.
use Rattle.files_laws.proofs.DeliveryEffects.{delivery-set}
use Rattle.board_block.proofs.put_signal.Goals as goal

pub returns : goal.returns
returns c = delivery-set c.args.files.now c.args.k 0x40000000 c.told-files c.requires
