-- The message types, which of them have high priority, and their names.
use denote.Enum.Bare.{sameb}
use Rattle.std.specs.Prelude.{ℕ, Bool, true, false, List, [], ◌∷◌, codes}
use Rattle.strm_data.specs.contracts.msg_type.MsgType.{the_type}
use Rattle.strm_data.specs.declared.msg_type.MsgType.{MsgType}
use Rattle.strm_data.specs.declared.msg_type.MsgType.TheVariants.{MData, MProto, MBreak, MPassfp, MSig, MDelay, MCtl, MIoctl, MSetopts, MIocack, MIocnak, MPcproto, MPcsig, MRead, MFlush, MStop, MStart, MHangup, MError, MCopyin, MCopyout, MIocdata}

-- whether two types are equal, as `==` returns
unfoldable pub same_kind : MsgType → MsgType → Bool
same_kind = sameb the_type

-- every type, in order of declaration
abbrev pub all_types : List MsgType
all_types =
    MData ∷ MProto ∷ MBreak ∷ MPassfp ∷ MSig ∷ MDelay ∷ MCtl ∷ MIoctl ∷ MSetopts ∷ MIocack ∷ MIocnak ∷ MPcproto ∷ MPcsig ∷ MRead
    ∷ MFlush ∷ MStop ∷ MStart ∷ MHangup ∷ MError ∷ MCopyin ∷ MCopyout ∷ MIocdata ∷ []

-- whether messages of the type go before all bands
abbrev pub is_high_priority : MsgType → Bool
is_high_priority MData = false
is_high_priority MProto = false
is_high_priority MBreak = false
is_high_priority MPassfp = false
is_high_priority MSig = false
is_high_priority MDelay = false
is_high_priority MCtl = false
is_high_priority MIoctl = false
is_high_priority MSetopts = false
is_high_priority MIocack = true
is_high_priority MIocnak = true
is_high_priority MPcproto = true
is_high_priority MPcsig = true
is_high_priority MRead = true
is_high_priority MFlush = true
is_high_priority MStop = true
is_high_priority MStart = true
is_high_priority MHangup = true
is_high_priority MError = true
is_high_priority MCopyin = true
is_high_priority MCopyout = true
is_high_priority MIocdata = true

abbrev pub name_of : MsgType → List ℕ
name_of MData = codes "M_DATA"
name_of MProto = codes "M_PROTO"
name_of MBreak = codes "M_BREAK"
name_of MPassfp = codes "M_PASSFP"
name_of MSig = codes "M_SIG"
name_of MDelay = codes "M_DELAY"
name_of MCtl = codes "M_CTL"
name_of MIoctl = codes "M_IOCTL"
name_of MSetopts = codes "M_SETOPTS"
name_of MIocack = codes "M_IOCACK"
name_of MIocnak = codes "M_IOCNAK"
name_of MPcproto = codes "M_PCPROTO"
name_of MPcsig = codes "M_PCSIG"
name_of MRead = codes "M_READ"
name_of MFlush = codes "M_FLUSH"
name_of MStop = codes "M_STOP"
name_of MStart = codes "M_START"
name_of MHangup = codes "M_HANGUP"
name_of MError = codes "M_ERROR"
name_of MCopyin = codes "M_COPYIN"
name_of MCopyout = codes "M_COPYOUT"
name_of MIocdata = codes "M_IOCDATA"
