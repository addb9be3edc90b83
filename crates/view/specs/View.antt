-- What a reader of a frame holds of it: the part that its data are. Assumes nothing.
use Rattle.frame.specs.declared.Part.{Part}
use Rattle.view.specs.declared.Reader.{Reader}

-- where the data lie
abbrev pub part_of : Reader → Part
part_of r = r.part
