-- What a machine holds. Assumes nothing.
use Rattle.resolving.specs.declared.packet.Packet.{Packet as Row}
use Rattle.book.specs.Pipeline.{Contents}
use Rattle.machine.specs.declared.held.Held.{Held}
use Rattle.machine.specs.declared.machine.Machine.{Machine}

abbrev pub held_contents : Held → Contents Row
held_contents h = record { places = h.places; carried = h.rows; counts = h.counts; words = h.words }

abbrev pub contents : {A : Type 0} → Machine A → Contents Row
contents m = held_contents m.held
