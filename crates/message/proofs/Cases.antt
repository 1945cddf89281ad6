-- The cases, computed.
use mathlib.Core.Path.{refl}
use Rattle.octets.specs.First.{first_of}
use Rattle.octets.specs.Writing.{written_as}
use Rattle.diagram.specs.Rows.{directory}
use Rattle.diagram.specs.Table.{find, diagram_of}
use Rattle.message.specs.Layouts.{layouts, layout_at, known, number_of, layout_rows, rows_at}
use Rattle.message.specs.Values.{zeros, placed, first_out}
use Rattle.message.specs.Reader.{no_message, not_read, part_of, ranged_of, read_part_of, read_of}
use Rattle.message.specs.Writer.{writable_as, info_as, write_message}
use Rattle.message.specs.Cases.{messages_read, due_messages_read, edges, due_edges, messages_written, due_messages_written, MessageCases}

pub message-cases : MessageCases
unfolding messages_read due_messages_read edges due_edges messages_written due_messages_written first_of directory find diagram_of layouts layout_at known number_of layout_rows rows_at zeros placed first_out no_message not_read part_of ranged_of read_part_of read_of written_as writable_as info_as write_message
message-cases = (refl, refl, refl)
