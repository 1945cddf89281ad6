-- `frame_calls::decoder::step`: where INFO is due there is room for one octet more of it.
use Rattle.frame.proofs.Laws.{room-info, room-info-aa}
use Rattle.frame_calls.proofs.decoder.step.Goals as goal

pub info_octet-requires : goal.info_octet-requires
info_octet-requires c = room-info c.args.h c.in-Info.is c.requires

pub info_aa_octet-requires : goal.info_aa_octet-requires
info_aa_octet-requires c = room-info-aa c.args.h c.in-InfoAa.is c.requires
