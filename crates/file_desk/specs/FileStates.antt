-- What a file was when it was looked at.
use Rattle.std.specs.declared.fs.attrs.Metadata.{Metadata}
use Rattle.file_desk.specs.declared.state.FileState.{FileState}

-- what the system told of the file
abbrev pub metadata_of : FileState → Metadata
metadata_of s = s.metadata
