-- The event table of an update: one case a row. Where the table names several states for one event and the same
-- actions, each has a case of its own.
use Rattle.std.specs.Prelude.{List, [], ◌∷◌, Option, Some, None}
use Rattle.ota_agent.specs.declared.events.OtaState.{OtaState}
use Rattle.ota_agent.specs.declared.events.OtaState.TheVariants.{Init, Ready, RequestingJob, WaitingForJob, CreatingFile, RequestingFileBlock, WaitingForFileBlock, SelfTesting, Suspended, Stopped}
use Rattle.ota_agent.specs.declared.events.OtaEvent.{OtaEvent}
use Rattle.ota_agent.specs.declared.events.OtaEvent.TheVariants.{Start, RequestJob, ReceivedJob, CreateFile, RequestBlock, ReceivedBlock, RequestTimer, CloseFile, SelfTest, Suspend, Resume, UserAbort, Shutdown}
use Rattle.ota_agent.specs.declared.events.Action.{Action}
use Rattle.ota_agent.specs.declared.events.Action.TheVariants.{SubscribeJobs, AskJob, SubscribeStream, OpenImage, AskBlocks, WriteBlock, FinishImage, TestImage, RejectImage, AbortImage, ReportProgress, ReportFailed, StartTimer, StopTimer, Raise}

-- What a row of the table leads to.
pub record Row : Type 0 where
  pub state : OtaState
  pub actions : List Action

abbrev pub to : OtaState → List Action → Option Row
to state actions = Some (record { state = state; actions = actions })

-- the row of an event in a state
abbrev pub row : OtaEvent → OtaState → Option Row
row Start Init = to Ready (SubscribeJobs ∷ Raise RequestJob ∷ [])
row RequestJob Ready = to WaitingForJob (AskJob ∷ StartTimer ∷ [])
row RequestJob RequestingJob = to WaitingForJob (AskJob ∷ StartTimer ∷ [])
row ReceivedJob WaitingForJob = to CreatingFile (StopTimer ∷ Raise CreateFile ∷ [])
row CreateFile CreatingFile = to RequestingFileBlock (OpenImage ∷ SubscribeStream ∷ ReportProgress ∷ Raise RequestBlock ∷ [])
row RequestBlock RequestingFileBlock = to WaitingForFileBlock (AskBlocks ∷ StartTimer ∷ [])
row RequestBlock WaitingForFileBlock = to WaitingForFileBlock (AskBlocks ∷ StartTimer ∷ [])
row ReceivedBlock WaitingForFileBlock = to WaitingForFileBlock (WriteBlock ∷ [])
row RequestTimer WaitingForJob = to RequestingJob (Raise RequestJob ∷ [])
row RequestTimer WaitingForFileBlock = to RequestingFileBlock (Raise RequestBlock ∷ [])
row CloseFile WaitingForFileBlock = to SelfTesting (StopTimer ∷ FinishImage ∷ [])
row SelfTest SelfTesting = to WaitingForJob (TestImage ∷ [])
row Suspend Ready = to Suspended []
row Suspend RequestingJob = to Suspended []
row Suspend CreatingFile = to Suspended []
row Suspend WaitingForJob = to Suspended (StopTimer ∷ [])
row Suspend RequestingFileBlock = to Suspended (AbortImage ∷ [])
row Suspend WaitingForFileBlock = to Suspended (StopTimer ∷ AbortImage ∷ [])
row Suspend SelfTesting = to Suspended (RejectImage ∷ [])
row Resume Suspended = to RequestingJob (Raise RequestJob ∷ [])
row UserAbort RequestingJob = to Ready []
row UserAbort CreatingFile = to Ready []
row UserAbort Suspended = to Ready []
row UserAbort WaitingForJob = to Ready (StopTimer ∷ [])
row UserAbort RequestingFileBlock = to Ready (AbortImage ∷ ReportFailed ∷ [])
row UserAbort WaitingForFileBlock = to Ready (StopTimer ∷ AbortImage ∷ ReportFailed ∷ [])
row UserAbort SelfTesting = to Ready (RejectImage ∷ ReportFailed ∷ [])
row Shutdown Init = to Stopped []
row Shutdown Ready = to Stopped []
row Shutdown RequestingJob = to Stopped []
row Shutdown CreatingFile = to Stopped []
row Shutdown Suspended = to Stopped []
row Shutdown WaitingForJob = to Stopped (StopTimer ∷ [])
row Shutdown RequestingFileBlock = to Stopped (AbortImage ∷ [])
row Shutdown WaitingForFileBlock = to Stopped (StopTimer ∷ AbortImage ∷ [])
row Shutdown SelfTesting = to Stopped (RejectImage ∷ [])
row event state = None

-- A pair without a row leaves the state and gives no action.
abbrev pub state_by : Option Row → OtaState → OtaState
state_by None old = old
state_by (Some r) old = r.state

abbrev pub actions_by : Option Row → List Action
actions_by None = []
actions_by (Some r) = r.actions
