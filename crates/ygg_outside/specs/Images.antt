-- What a device over files has attached.
use Rattle.ygg_base.specs.Devices.{Attachment}
use Rattle.ygg_outside.specs.declared.image.Attached.{Attached}

-- the file of that name, as so many blocks of so many bytes
abbrev pub attachment_at : Attached → Attachment
attachment_at a = record { name = a.name; size = a.size; count = a.count }
